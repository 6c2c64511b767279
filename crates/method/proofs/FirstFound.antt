-- The search by one pass over the lines finds the hold that goes first of all that stand. Assumes nothing.
use Rattle.std.specs.Prelude.{None, Some}
use mathlib.Core.Path.{◌≡◌, refl, sym, ap, ◌∙◌}
use mathlib.Core.Bool.{Bool, true, false, cond, true≢false, false≢true}
use mathlib.Core.Logic.{◌⊎◌, inl, inr, ⊎_elim}
use mathlib.Core.List.{List, [], ◌∷◌}
use Prim.Native.Nat.{ℕ, zero, suc, ◌+◌, ◌≤◌, ◌<◌}
use native.Mathlib.Nat.{zero-add}
use native.Mathlib.Omega.{arith}
use lib.Dec.{ltb, leb}
use lib.ListN.{get_or}
use borrow.Author.Tests.{ltb-true, ltb-false, leb-true, leb-false, lt-ltb}
use Rattle.method.specs.words.Types.{Side, Up, Down, Seconds, Hold, Holds, Line, Due, State, blank}
use Rattle.method.specs.words.Holds.{hold_of}
use Rattle.method.specs.words.Holds.{Stands, Ahead, earlier, up_first, lowest, First, Done}
use Rattle.method.specs.computed.Types.{Found}
use Rattle.method.specs.computed.Search.{due_of, outranks, ahead, sooner, passed, earliest, in_time, next_due, called}
use Rattle.method.proofs.HoldLife.{no_since, same_start, up_not_down, blank_idle}

-- ---- the order
pub not-later : (x y : Due) → Ahead x y → x.second.0 ≤ y.second.0
not-later x y (earlier h) = omega arith
not-later x y (up_first e u d) = omega arith
not-later x y (lowest e u p) = omega arith

ahead_trans : (x y z : Due) → Ahead x y → Ahead y z → Ahead x z
ahead_trans x y z (earlier h) (earlier k) = earlier (omega arith)
ahead_trans x y z (earlier h) (up_first e u d) = earlier (omega arith)
ahead_trans x y z (earlier h) (lowest e u p) = earlier (omega arith)
ahead_trans x y z (up_first e u d) (earlier k) = earlier (omega arith)
ahead_trans x y z (up_first e u d) (up_first f v g) = absurd (up_not_down (sym v ∙ d))
ahead_trans x y z (up_first e u d) (lowest f v p) = up_first (e ∙ f) u (sym v ∙ d)
ahead_trans x y z (lowest e u p) (earlier k) = earlier (omega arith)
ahead_trans x y z (lowest e u p) (up_first f v g) = up_first (e ∙ f) (u ∙ v) g
ahead_trans x y z (lowest e u p) (lowest f v q) = lowest (e ∙ f) (u ∙ v) (omega arith)

outranked : (p q : Side) → outranks p q ≡ true → (p ≡ Up) × (q ≡ Down)
outranked Up Up e = absurd (false≢true e)
outranked Up Down e = (refl, refl)
outranked Down q e = absurd (false≢true e)

not_outranked : (p q : Side) → outranks p q ≡ false → (q ≡ p) ⊎ ((q ≡ Up) × (p ≡ Down))
not_outranked Up Up e = inl refl
not_outranked Up Down e = absurd (true≢false e)
not_outranked Down Up e = inr (refl, refl)
not_outranked Down Down e = inl refl

-- what the test of two holds tells: the first goes before, or the second, which stands at no later place
ahead-true : (x y : Due) → ahead x y ≡ true → Ahead x y
unfolding ahead
ahead-true x y e = go (ltb x.second.0 y.second.0) (ltb y.second.0 x.second.0) refl refl e
  where
    go : (a b : Bool) → ltb x.second.0 y.second.0 ≡ a → ltb y.second.0 x.second.0 ≡ b
        → cond a true (cond b false (outranks x.side y.side)) ≡ true → Ahead x y
    go true b ea eb e = earlier (ltb-true _ _ ea)
    go false true ea eb e = absurd (false≢true e)
    go false false ea eb e =
        let h : y.second.0 ≤ x.second.0 = ltb-false _ _ ea in
        let g : x.second.0 ≤ y.second.0 = ltb-false _ _ eb in
        let o = outranked x.side y.side e in
        up_first (omega arith) o.0 o.1

ahead-false : (x y : Due) → y.place ≤ x.place → ahead x y ≡ false → Ahead y x
unfolding ahead
ahead-false x y p e = go (ltb x.second.0 y.second.0) (ltb y.second.0 x.second.0) refl refl e
  where
    go : (a b : Bool) → ltb x.second.0 y.second.0 ≡ a → ltb y.second.0 x.second.0 ≡ b
        → cond a true (cond b false (outranks x.side y.side)) ≡ false → Ahead y x
    go true b ea eb e = absurd (true≢false e)
    go false true ea eb e = earlier (ltb-true _ _ eb)
    go false false ea eb e =
        let h : y.second.0 ≤ x.second.0 = ltb-false _ _ ea in
        let g : x.second.0 ≤ y.second.0 = ltb-false _ _ eb in
        let q : y.second.0 ≡ x.second.0 = omega arith in
        ⊎_elim (λ s. lowest q s p) (λ o. up_first q o.0 o.1) (not_outranked x.side y.side e)

-- ---- the first of those that P holds of, or there is none
unfoldable pub Least : (Due → Type 0) → Found → Type 0
Least P None = (x : Due) → P x → ⊥
Least P (Some x) = P x × ((y : Due) → P y → Ahead x y)

least_iff : (P Q : Due → Type 0) (a : Found) → ((x : Due) → P x → Q x) → ((x : Due) → Q x → P x) → Least P a → Least Q a
unfolding Least
least_iff P Q None f g h = λ x q. h x (g x q)
least_iff P Q (Some y) f g h = (f y h.0, λ x q. h.1 x (g x q))

-- of two kinds of hold, the first at places not after the second's
least-sooner : (P Q : Due → Type 0) (a b : Found) → ((x y : Due) → P x → Q y → x.place ≤ y.place) → Least P a → Least Q b
    → Least (λ x. P x ⊎ Q x) (sooner a b)
unfolding Least sooner
least-sooner P Q None None o p q = λ x. ⊎_elim (p x) (q x)
least-sooner P Q None (Some y) o p q = (inr q.0, λ z. ⊎_elim (λ h. absurd (p z h)) (q.1 z))
least-sooner P Q (Some x) None o p q = (inl p.0, λ z. ⊎_elim (p.1 z) (λ h. absurd (q z h)))
least-sooner P Q (Some y) (Some x) o p q = go (ahead x y) refl
  where
    go : (b : Bool) → ahead x y ≡ b → Least (λ x. P x ⊎ Q x) (cond b (Some x) (Some y))
    go true e = (inr q.0, λ z. ⊎_elim (λ k. ahead_trans x y z (ahead-true x y e) (p.1 z k)) (q.1 z))
    go false e = (inl p.0, λ z. ⊎_elim (p.1 z) (λ k. ahead_trans y x z (ahead-false x y (o y x p.0 q.0) e) (q.1 z k)))

-- ---- the hold of one line on one side, and the holds of the lines from place n on
record Here (side : Side) (wait : Seconds) (n : ℕ) (h : Hold) (x : Due) : Type 0 where
  start : Seconds
  place : x.place ≡ n
  held : h ≡ Some start
  due : x.second.0 ≡ start.0 + wait.0
  on : x.side ≡ side

record From (wait : Seconds) (n : ℕ) (ls : List Line) (x : Due) : Type 0 where
  further : ℕ
  start : Seconds
  place : x.place ≡ n + further
  held : hold_of x.side (get_or ls further blank).holds ≡ Some start
  due : x.second.0 ≡ start.0 + wait.0

due-least : (side : Side) (wait : Seconds) (n : ℕ) (h : Hold) → Least (Here side wait n h) (due_of side wait n h)
unfolding Least due_of
due-least side wait n None = λ x h. no_since h.held
due-least side wait n (Some b) = (
  record { start = b; place = refl; held = refl; due = refl; on = refl },
  λ y h. let e : b.0 ≡ h.start.0 = ap (λ (z : Seconds). z.0) (same_start h.held) in lowest (omega arith) (sym h.on) (omega arith),
)

-- one line passed, where what was found before stands at earlier places
passed-least : (P : Due → Type 0) (wait : Seconds) (n : ℕ) (h : Holds) (best : Found) → ((x : Due) → P x → x.place < n) → Least P best
    → Least (λ x. (P x ⊎ Here Up wait n h.up x) ⊎ Here Down wait n h.down x) (passed wait n h best)
unfolding passed
passed-least P wait n h best b p =
    least-sooner (λ x. P x ⊎ Here Up wait n h.up x) (Here Down wait n h.down)
    (sooner best (due_of Up wait n h.up)) (due_of Down wait n h.down)
    (λ x y u d. ⊎_elim (λ k. let r = b x k in omega arith) (λ k. omega arith) u)
    (least-sooner P (Here Up wait n h.up) best (due_of Up wait n h.up) (λ x y k u. let r = b x k in omega arith) p
    (due-least Up wait n h.up))
    (due-least Down wait n h.down)

-- a hold of the lines from n on is of line n, on one side or the other, or of the lines after it; and the other way round
module _ (wait : Seconds) (n : ℕ) (l : Line) (ls : List Line) (x : Due) where
  split : From wait n (l ∷ ls) x → (Here Up wait n l.holds.up x ⊎ Here Down wait n l.holds.down x) ⊎ From wait (suc n) ls x
  split f = go f.further f.place f.held
    where
      on : (side : Side) → x.side ≡ side → x.place ≡ n → hold_of side l.holds ≡ Some f.start
          → Here Up wait n l.holds.up x ⊎ Here Down wait n l.holds.down x
      on Up e p q = inl (record { start = f.start; place = p; held = q; due = f.due; on = e })
      on Down e p q = inr (record { start = f.start; place = p; held = q; due = f.due; on = e })

      go : (k : ℕ) → x.place ≡ n + k → hold_of x.side (get_or (l ∷ ls) k blank).holds ≡ Some f.start
          → (Here Up wait n l.holds.up x ⊎ Here Down wait n l.holds.down x) ⊎ From wait (suc n) ls x
      go zero p e = inl (on x.side refl (omega arith) e)
      go (suc k) p e = inr (record { further = k; start = f.start; place = omega arith; held = e; due = f.due })

  here : (side : Side) → Here side wait n (hold_of side l.holds) x → From wait n (l ∷ ls) x
  here side h = record { further = 0; start = h.start; place = omega arith; held = rw h.on h.held; due = h.due }

  there : From wait (suc n) ls x → From wait n (l ∷ ls) x
  there f = record { further = suc f.further; start = f.start; place = omega arith; held = f.held; due = f.due }

earliest-least : (P : Due → Type 0) (wait : Seconds) (n : ℕ) (ls : List Line) (best : Found) → ((x : Due) → P x → x.place < n) → Least P best
    → Least (λ x. P x ⊎ From wait n ls x) (earliest wait n ls best)
unfolding earliest
earliest-least P wait n [] best b p =
    least_iff P (λ x. P x ⊎ From wait n [] x) best (λ x. inl)
    (λ x. ⊎_elim (λ k. k) (λ f. absurd (no_since (sym (blank_idle x.side) ∙ f.held)))) p
earliest-least P wait n (l ∷ ls) best b p =
    let R : Due → Type 0 = λ x. (P x ⊎ Here Up wait n l.holds.up x) ⊎ Here Down wait n l.holds.down x in
    least_iff (λ x. R x ⊎ From wait (suc n) ls x) (λ x. P x ⊎ From wait n (l ∷ ls) x) (earliest wait (suc n) ls (passed wait n l.holds best))
    (λ x. ⊎_elim (⊎_elim (⊎_elim inl (λ u. inr (here wait n l ls x Up u))) (λ d. inr (here wait n l ls x Down d))) (λ f. inr (there wait n l ls x f)))
    (λ x. ⊎_elim (λ k. inl (inl (inl k))) (λ f. ⊎_elim (⊎_elim (λ u. inl (inl (inr u))) (λ d. inl (inr d))) inr (split wait n l ls x f)))
    (earliest-least R wait (suc n) ls (passed wait n l.holds best)
    (λ x. ⊎_elim (⊎_elim (λ k. let r = b x k in omega arith) (λ u. omega arith)) (λ d. omega arith))
    (passed-least P wait n l.holds best b p))

pub first_of_all : (s : State) → Least (Stands s) (earliest s.hold 0 s.lines None)
first_of_all s =
    least_iff (λ x. ⊥ ⊎ From s.hold 0 s.lines x) (Stands s) (earliest s.hold 0 s.lines None)
    (λ x. ⊎_elim (λ k. absurd k) (λ f. record { start = f.start; held = rw (f.place, zero-add) f.held; due = f.due }))
    (λ x h. inr (record { further = x.place; start = h.start; place = omega arith; held = h.held; due = h.due }))
    (earliest-least (λ x. ⊥) s.hold 0 s.lines None (λ x k. absurd k) (unfold Least in λ x k. k))

pub nothing-at : {x : Due} → None ≡ Some x → ⊥
nothing-at e = let z : ◌≡◌ {A = ℕ} 0 1 = cc in omega arith

-- ---- what the search answers, while shifts are left
unfoldable pub FoundIn : Seconds → State → Found → Type 0
FoundIn t s None = Done t s
FoundIn t s (Some x) = First t s (called s x)

in_time_found : (t : Seconds) (s : State) (a : Found) → 0 < s.left → Least (Stands s) a → FoundIn t s (in_time t s.end s.left a)
unfolding Least FoundIn in_time Done
in_time_found t s None l h = λ x k. absurd (h x k)
in_time_found t s (Some x) l h = rw (lt-ltb 0 s.left l) (go (ltb t.0 x.second.0) (leb s.end.0 x.second.0) refl refl)
  where
    none : (t.0 < x.second.0) ⊎ (s.end.0 ≤ x.second.0) → FoundIn t s None
    none (inl q) = λ y k e. let r = not-later x y (h.1 y k) in omega arith
    none (inr q) = λ y k e. let r = not-later x y (h.1 y k) in omega arith

    go : (a b : Bool) → ltb t.0 x.second.0 ≡ a → leb s.end.0 x.second.0 ≡ b → FoundIn t s (cond a None (cond b None (Some x)))
    go true b ea eb = none (inl (ltb-true _ _ ea))
    go false true ea eb = none (inr (leb-true _ _ eb))
    go false false ea eb =
        record { place = x.place; stands = h.0; ahead = h.1; in_time = ltb-false _ _ ea; before_end = leb-false _ _ eb; named = refl }

-- and where none is left
either_nothing : (t : Bool) → ◌≡◌ {A = Found} (cond t None None) None
either_nothing true = refl
either_nothing false = refl

pub none_left : (t end : Seconds) (left : ℕ) (d : Found) → left ≡ 0 → in_time t end left d ≡ None
unfolding in_time
none_left t end left None e = refl
none_left t end left (Some x) e = rw (e, either_nothing, either_nothing)

pub next_due_found : (t : Seconds) (s : State) → 0 < s.left → FoundIn t s (next_due t s)
unfolding next_due
next_due_found t s l = in_time_found t s (earliest s.hold 0 s.lines None) l (first_of_all s)
