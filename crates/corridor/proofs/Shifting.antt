-- One shift of a session: the loop over its rows, and what the shifted session is. Assumes nothing.
use mathlib.Core.Path.{◌≡◌, refl, sym, ap, ◌∙◌}
use mathlib.Core.List.{List, [], ◌∷◌, ◌++◌, map}
use Prim.Native.Nat.{ℕ, ◌+◌, ◌-◌, ◌≤◌, ◌<◌}
use native.Mathlib.Numerals.{add-one}
use native.Mathlib.Omega.{arith}
use lib.ListN.{length, get_or, set, drop, length-map}
use Rattle.method.specs.words.Types.{State, blank}
use Rattle.method.specs.words.Ranges.{longest_session}
use Rattle.method.specs.computed.Head.{with_lines}
use Rattle.method.specs.computed.Shift.{shift_line, shifted, onward, after}
use Rattle.method.proofs.Sane.{sane-shifted}
use Rattle.corridor.specs.Names.{Side, Seconds, Line, ShiftLine}
use Rattle.corridor.specs.declared.Session.{Session}
use Rattle.corridor.specs.View.{view, with_head, put, Ranged}
use Rattle.corridor.proofs.Rows.{changed, changed_at, changed_next, changed-length, changed_all}
use Rattle.corridor.proofs.Views.{ranged_length, ranged_put}

-- a turn of the loop: one more row is changed
pub change_turn : (f : Line → Line) (rows rows' : List Line) (i : ℕ) (m : Line) → rows' ≡ changed f i rows → i < length rows'
    → m ≡ f (get_or rows' i blank) → set rows' i m ≡ changed f (i + 1) rows
change_turn f rows rows' i m e h em = rw (em, e, add-one, changed_at) (changed_next f i rows blank (rw (e, changed-length) at h))

-- after it, the rows in use and those past them are the shifted session's
pub all_shifted : (side : Side) (now : Seconds) (s : Session) → Ranged s → (i : ℕ) (rows : List Line) → length rows ≤ i
    → rows ≡ changed (shift_line s.near (s.left - 1) side now) i (view s).lines
    → with_head (with_lines (view s) rows (s.left - 1) s.clock) s.count (rows ++ drop s.count s.lines) ≡ put s (shifted side now (view s))
unfolding shifted
all_shifted side now s v i rows h e =
    let f = shift_line s.near (s.left - 1) side now in
    let new : rows ≡ map f (view s).lines = e ∙ changed_all f i (view s).lines (rw (e, changed-length f i (view s).lines) at h) in
    let size : s.count ≡ length (map f (view s).lines) = sym (length-map (view s).lines f ∙ ranged_length v) in
    rw new (ap (λ (n : ℕ). with_head (with_lines (view s) (map f (view s).lines) (s.left - 1) s.clock) n (map f (view s).lines ++ drop n s.lines)) size)

-- ---- shifts change no number of lines
pub shifted-length : (side : Side) (now : Seconds) (s : State) → length (shifted side now s).lines ≡ length s.lines
unfolding shifted
shifted-length side now s = length-map s.lines _

pub after-length : (cs : List ShiftLine) (s : State) → length (after cs s).lines ≡ length s.lines
unfolding after
after-length [] s = refl
after-length (c ∷ cs) s = after-length cs (onward s c) ∙ shifted-length c.side c.second s

pub after_last : (cs : List ShiftLine) (c : ShiftLine) (s : State) → after (cs ++ (c ∷ [])) s ≡ onward (after cs s) c
unfolding after
after_last [] c s = refl
after_last (b ∷ cs) c s = after_last cs c (onward s b)

pub ranged_shifted : (side : Side) (now : Seconds) {s : Session} → Ranged s → 0 < s.left → now.0 ≤ longest_session → Ranged (put s (shifted side now (view s)))
ranged_shifted side now {s} v h g =
    ranged_put s (shifted side now (view s)) v.full (omega (arith, shifted-length side now (view s), ranged_length v, v.few)) (sane-shifted side now (view s) h g v.sane)
