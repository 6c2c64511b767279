-- The place of an id is that of the first line that has it. `quoted` speaks of that place, and shifts leave it as it is. Assumes nothing.
use mathlib.Core.Path.{◌≡◌, refl, ap}
use mathlib.Core.List.{List, [], ◌∷◌, map}
use Prim.Native.Nat.{ℕ, zero, suc, ◌-◌, ◌<◌}
use native.Mathlib.Omega.{arith}
use borrow.Author.Tests.{eq-eqb, ne_eqb}
use lib.ListN.{length, get_or, set}
use Rattle.method.specs.words.Types.{State, blank}
use Rattle.method.specs.computed.Judge.{judge_line}
use Rattle.method.specs.computed.Shift.{moved_line, shift_line, shifted, onward, after}
use Rattle.method.specs.computed.Event.{quoted_line, quoted}
use Rattle.corridor.specs.Names.{Millionths, Seconds, Side, Line, Quote, ShiftLine}

-- p is the first place of the id
unfoldable pub Named : ℕ → List Line → ℕ → Type 0
Named id [] p = ⊥
Named id (l ∷ ls) zero = l.terms.id ≡ id
Named id (l ∷ ls) (suc p) = (l.terms.id ≡ id → ⊥) × Named id ls p

pub named-below : (id : ℕ) (ls : List Line) (p : ℕ) → Named id ls p → p < length ls
unfolding Named
named-below id [] p h = absurd h
named-below id (l ∷ ls) zero h = omega arith
named-below id (l ∷ ls) (suc p) h = omega (arith, named-below id ls p h.1)

pub named-quoted : (near : Millionths) (left : ℕ) (q : Quote) (ls : List Line) (p : ℕ) → Named q.id ls p
    → quoted near left q ls ≡ set ls p (quoted_line near left q (get_or ls p blank))
unfolding Named quoted
named-quoted near left q [] p h = absurd h
named-quoted near left q (l ∷ ls) zero h = rw (eq-eqb l.terms.id q.id h)
named-quoted near left q (l ∷ ls) (suc p) h =
    rw (ne_eqb l.terms.id q.id h.0) (ap (λ (zs : List Line). l ∷ zs) (named-quoted near left q ls p h.1))

-- ---- shifts leave every line's terms
terms-kept : (near : Millionths) (left : ℕ) (side : Side) (now : Seconds) (l : Line) → (shift_line near left side now l).terms ≡ l.terms
unfolding shift_line judge_line moved_line
terms-kept near left side now l = refl

named-map : (f : Line → Line) → ((l : Line) → (f l).terms ≡ l.terms) → (id : ℕ) (ls : List Line) (p : ℕ) → Named id ls p → Named id (map f ls) p
unfolding Named
named-map f e id [] p h = absurd h
named-map f e id (l ∷ ls) zero h = rw (e l) h
named-map f e id (l ∷ ls) (suc p) h = (rw (e l) h.0, named-map f e id ls p h.1)

pub named-after : (id : ℕ) (cs : List ShiftLine) (s : State) (p : ℕ) → Named id s.lines p → Named id (after cs s).lines p
unfolding after shifted
named-after id [] s p h = h
named-after id (c ∷ cs) s p h =
    named-after id cs (onward s c) p
    (named-map (shift_line s.near (s.left - 1) c.side c.second) (terms-kept s.near (s.left - 1) c.side c.second) id s.lines p h)
