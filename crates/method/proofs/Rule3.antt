-- Rule 3: a theorem for each statement of words/Rules and laws/Rule3. Assumes nothing.
use mathlib.Core.Path.{◌≡◌, refl, sym, ◌∙◌}
use mathlib.Core.Bool.{true, false, true≢false}
use mathlib.Core.List.{List}
use mathlib.Core.Logic.{◌↔◌}
use Prim.Native.Nat.{ℕ}
use native.Mathlib.Omega.{arith}
use lib.IntN.{ℤ, pos, ◌+ℤ◌, ◌-ℤ◌}
use lib.Signed.{◌≤ℤ◌, ◌<ℤ◌}
use Rattle.numbers.proofs.Halves.{zarith, add_is, sub_is}
use Rattle.method.specs.words.Types.{Side, Up, Down, Line, ShiftLine, State, steps}
use Rattle.method.specs.words.Ranges.{permits_negative}
use Rattle.method.specs.words.Bounds.{bound}
use Rattle.method.specs.words.Shifts.{Each, count}
use Rattle.method.specs.words.Sessions.{Answer, joined, AnswersInWords}
use Rattle.method.specs.words.Margins.{margin, FloorMet, at_opening, in_a_shift, Lower, exactly, at_floor, Outward}
use Rattle.method.specs.words.Rules.{Opens, Moment, start, Centres, HalfWidthsGrow, ShiftsWithin, NeverInward, UpperInside, LowerInside}
use Rattle.method.specs.laws.Seen.{Shifted, StaysFrozen}
use Rattle.method.specs.laws.Rule3.{FrozenTells, FrozenForGood, OnlyOutward, LinesShifted, OneLine, AnswersLead, ShiftsLead}
use Rattle.method.specs.computed.Opening.{ids}
use Rattle.method.specs.computed.Head.{most_left}
use Rattle.method.specs.computed.Later.{Later}
use Rattle.method.specs.computed.Rooms.{OpeningIn, Room}
use Rattle.method.specs.computed.Sound.{Distinct, Proper}
use Rattle.method.proofs.Each.{each_weaker, each_with}
use Rattle.method.proofs.Table.{accepted-table, table-most}
use Rattle.method.proofs.TableAnswered.{answered_table}
use Rattle.method.proofs.OneSession.{proper_held, opens_proper}
use Rattle.method.proofs.Moments.{moment_words, moment_shifts, moment_rest, moment_later}
use Rattle.method.proofs.Later.{Held, held-opening, held_moment}
use Rattle.method.proofs.Reached.{shifted_moment, left_moment, Limited, wider_moment}

-- ---- moments
pub rule3_answers_lead : AnswersLead
rule3_answers_lead s n bs rs h = moment_words start h

pub rule3_shifts_lead : ShiftsLead
rule3_shifts_lead s m n b cs ds f k = (moment_shifts k, moment_rest f k)

-- of a session from an accepted table: the ranges, and the computed moments
module _ (o : State) (q : Opens o) where
  opens : OpeningIn o
  opens = (accepted-table q.table o (answered_table q.table q.opened_by)).state

  its_held : Held o
  its_held = held-opening o opens

  later : {s : State} {cs : List ShiftLine} → Moment o cs s → Later o cs s × Distinct (ids s.lines)
  later m = moment_later its_held (opens_proper o q).distinct m

  after_words : {bs : List (List ℕ)} {rs : List Answer} {s : State} → AnswersInWords o bs rs s → Later o (joined rs) s
  after_words {bs} {rs} {s} h = (later (rule3_answers_lead o s bs rs h)).0

-- ---- the whole line, and what is read off it
pub shifted-lines : (o : State) → Opens o → {s : State} {cs : List ShiftLine} → Moment o cs s → Each (Shifted (count Up cs) (count Down cs)) o.lines s.lines
shifted-lines o q m = shifted_moment (opens o q) (later o q m).0

pub rule3_lines : LinesShifted
rule3_lines o q bs rs s h = shifted-lines o q (rule3_answers_lead o s bs rs h)

pub rule3_centres : Centres
rule3_centres o q bs rs s h = each_weaker _ _ (λ x l k. k.centre) o.lines s.lines (rule3_lines o q bs rs s h)

pub rule3_half_widths : HalfWidthsGrow
rule3_half_widths o q bs rs s h = each_weaker _ _ (λ x l k. k.halfs) o.lines s.lines (rule3_lines o q bs rs s h)

pub rule3_upper : UpperInside
rule3_upper o q bs rs s h = each_weaker _ _ (λ x l k. k.upper) o.lines s.lines (rule3_lines o q bs rs s h)

pub rule3_lower : LowerInside
rule3_lower o q bs rs s h = each_weaker _ _ (λ x l k. k.lower) o.lines s.lines (rule3_lines o q bs rs s h)

-- ---- the number of shifts
pub rule3_shifts : ShiftsWithin
rule3_shifts o q bs rs s h =
    let left = left_moment (its_held o q) (after_words o q h) ∙ table-most q.table o (answered_table q.table q.opened_by) in
    (omega (arith, left), left)

-- ---- from a moment of a session that began in a proper state to a later one
module _ (o : State) (p : Proper o) {s r : State} {cs ds : List ShiftLine} (m : Moment o cs s) (n : Moment s ds r) where
  before : Later o cs s × Distinct (ids s.lines)
  before = moment_later (proper_held o p) p.distinct m

  here : Held s
  here = held_moment (proper_held o p) before.0

  thence : Later s ds r
  thence = (moment_later here before.1 n).0

pub never_inward : OnlyOutward Proper
never_inward o s r cs ds p m n =
    each_weaker Limited Outward (λ x l w. record { upper = w.upper; lower = w.lower }) s.lines r.lines
    (wider_moment (here o p m n) (thence o p m n))

pub rule3_never_inward : NeverInward
rule3_never_inward o s r cs ds q m n = never_inward o s r cs ds (opens_proper o q) m n

pub frozen_for_good : FrozenForGood Proper
frozen_for_good o s r cs ds p m n =
    each_with (Room (most_left r)) Limited StaysFrozen
    (λ x l v w. record { frozen = w.frozen; lower = λ y. v.limits.floor.frozen_at (w.frozen y) }) s.lines r.lines
    (held_moment (here o p m n) (thence o p m n)).sane.rooms (wider_moment (here o p m n) (thence o p m n))

pub rule3_frozen_for_good : FrozenForGood Opens
rule3_frozen_for_good o s r cs ds q m n = frozen_for_good o s r cs ds (opens_proper o q) m n

-- ---- the two cases of the lower limit exclude each other: w inside its bound b by i, as at opening
not-below : (w b i : ℤ) → w -ℤ b ≡ i → pos 1 ≤ℤ w → (b +ℤ i) <ℤ pos 1 → ⊥
not-below w b i e h g = omega (zarith, sub_is w b, add_is b i)

not_met : (o l : Line) → o.limits.frozen ≡ false → (permits_negative l.terms.flags ≡ false → pos 1 ≤ℤ l.limits.lower.0) → margin Down l ≡ margin Down o
    → FloorMet o l → ⊥
not_met o l z least e (at_opening f) = true≢false (sym f ∙ z)
not_met o l z least e (in_a_shift g h) = not-below l.limits.lower.0 (bound Down l.terms.factors l.market) (margin Down o) e (least g) h

frozen_tells : (o l : Line) → Lower o l → (l.limits.frozen ≡ true) ↔ FloorMet o l
frozen_tells o l (exactly z least e f) = (λ y. absurd (true≢false (sym y ∙ f)), λ x. absurd (not_met o l z least e x))
frozen_tells o l (at_floor x w i f) = (λ y. x, λ y. f)

pub rule3_frozen_tells : FrozenTells
rule3_frozen_tells o q bs rs s h = each_weaker Lower _ frozen_tells o.lines s.lines (rule3_lower o q bs rs s h)

-- ---- so the statements leave one line
same-upper : (b b' x y z : ℤ) → b ≡ b' → b -ℤ x ≡ z → b' -ℤ y ≡ z → x ≡ y
same-upper b b' x y z e p q = omega (zarith, sub_is b x, sub_is b' y)

same-lower : (b b' x y z : ℤ) → b ≡ b' → x -ℤ b ≡ z → y -ℤ b' ≡ z → x ≡ y
same-lower b b' x y z e p q = omega (zarith, sub_is x b, sub_is y b')

module _ (o l r : Line) (terms : l.terms ≡ r.terms) (market : l.market ≡ r.market) where
  same-bound : (side : Side) → bound side l.terms.factors l.market ≡ bound side r.terms.factors r.market
  same-bound side = rw (terms, market) refl

  met_same : FloorMet o l → FloorMet o r
  met_same (at_opening e) = at_opening e
  met_same (in_a_shift g h) = in_a_shift (rw terms at g) (rw (terms, market) at h)

lower-one : (o l r : Line) → l.terms ≡ r.terms → l.market ≡ r.market → Lower o l → Lower o r
    → (l.limits.lower.0 ≡ r.limits.lower.0) × (l.limits.frozen ≡ r.limits.frozen)
lower-one o l r t m (exactly z p e f) (exactly z' p' e' f') = (same-lower _ _ _ _ (margin Down o) (same-bound o l r t m Down) e e', f ∙ sym f')
lower-one o l r t m (exactly z p e f) (at_floor x w i f') = absurd (not_met o l z p e (met_same o r l (sym t) (sym m) x))
lower-one o l r t m (at_floor x w i f) (exactly z p e f') = absurd (not_met o r z p e (met_same o l r t m x))
lower-one o l r t m (at_floor x w i f) (at_floor x' w' i' f') = (w ∙ sym w', f ∙ sym f')

market-one : {u d : ℕ} {o l r : Line} → Shifted u d o l → Shifted u d o r → l.market ≡ r.market
market-one p q =
    λ i. record {
      centre = steps ((p.centre ∙ sym q.centre) i);
      half1 = steps ((p.halfs.half1 ∙ sym q.halfs.half1) i);
      half2 = steps ((p.halfs.half2 ∙ sym q.halfs.half2) i);
      half3 = steps ((p.halfs.half3 ∙ sym q.halfs.half3) i);
    }

pub rule3_one_line : OneLine
rule3_one_line u d o l r p q =
    let t = p.terms ∙ sym q.terms in
    let m = market-one p q in
    let lower = lower-one o l r t m p.lower q.lower in
    let upper = same-upper _ _ l.limits.upper.0 r.limits.upper.0 (margin Up o) (same-bound o l r t m Up) p.upper q.upper in
    (m, λ i. record { upper = steps (upper i); lower = steps (lower.0 i); frozen = lower.1 i })
