-- The search for the hold that goes first, as a loop over the rows, and what it tells of the hold that it finds. Assumes nothing.
use Rattle.std.specs.Prelude.{None, Some}
use mathlib.Core.Path.{◌≡◌, refl, subst, ap}
use mathlib.Core.Bool.{Bool, true, false, cond}
use mathlib.Core.List.{List, [], ◌∷◌}
use Prim.Native.Nat.{ℕ, suc, ◌+◌, ◌≤◌, ◌<◌}
use native.Mathlib.Omega.{arith}
use lib.Dec.{ltb, leb}
use lib.ListN.{length, get_or}
use borrow.Author.Tests.{ltb-true, leb-false}
use Rattle.method.specs.words.Types.{State, blank}
use Rattle.method.specs.words.Ranges.{longest_hold}
use Rattle.method.specs.computed.Search.{due_of, ahead, sooner, passed, earliest, in_time, next_due}
use Rattle.method.specs.computed.Rooms.{HoldsIn}
use Rattle.shifts.proofs.Rooms.{room_passes}
use Rattle.method.proofs.FirstFound.{nothing-at}
use Rattle.corridor.specs.Names.{Side, Up, Down, Seconds, Hold, Holds, Line, Due, Found}
use Rattle.corridor.specs.declared.Session.{Session}
use Rattle.corridor.specs.View.{view, Ranged}
use Rattle.corridor.proofs.Rows.{room_in}

-- what passing a row asks
pub row_passes : {s : Session} (i : ℕ) → Ranged s → i < s.count → HoldsIn (get_or (view s).lines i blank).holds × (s.hold.0 ≤ longest_hold)
row_passes i v h = room_passes v.sane.hold.most (room_in i v h)

-- ---- the hold that is found stands at a place of the table
unfoldable Placed : ℕ → Found → Type 0
Placed k None = Unit {0}
Placed k (Some x) = x.place < k

placed-later : (k : ℕ) (d : Found) → Placed k d → Placed (suc k) d
unfolding Placed
placed-later k None h = tt
placed-later k (Some x) h = omega arith

placed-sooner : (k : ℕ) (c d : Found) → Placed k c → Placed k d → Placed k (sooner c d)
unfolding sooner
placed-sooner k None d h g = g
placed-sooner k (Some y) None h g = h
placed-sooner k (Some y) (Some x) h g = either (ahead x y)
  where
    either : (b : Bool) → Placed k (cond b (Some x) (Some y))
    either true = g
    either false = h

placed-due : (side : Side) (wait : Seconds) (n : ℕ) (h : Hold) → Placed (suc n) (due_of side wait n h)
unfolding due_of Placed
placed-due side wait n None = tt
placed-due side wait n (Some b) = omega arith

placed-passed : (wait : Seconds) (n : ℕ) (h : Holds) (best : Found) → Placed n best → Placed (suc n) (passed wait n h best)
unfolding passed
placed-passed wait n h best p =
    placed-sooner (suc n) _ _ (placed-sooner (suc n) _ _ (placed-later n best p) (placed-due Up wait n h.up)) (placed-due Down wait n h.down)

placed-earliest : (wait : Seconds) (n : ℕ) (ls : List Line) (best : Found) → Placed n best → Placed (n + length ls) (earliest wait n ls best)
unfolding earliest
placed-earliest wait n [] best p = subst (λ (k : ℕ). Placed k best) (omega arith) p
placed-earliest wait n (l ∷ ls) best p =
    let b = passed wait n l.holds best in
    subst (λ (k : ℕ). Placed k (earliest wait (suc n) ls b)) (omega arith) (placed-earliest wait (suc n) ls b (placed-passed wait n l.holds best p))

-- ---- what is told of the hold that is served next
pub record Next (t : Seconds) (s : State) (x : Due) : Type 0 where
  pub place : x.place < length s.lines
  pub before_end : x.second.0 < s.end.0
  pub left : 0 < s.left

nothing : {A : Type 0} {x : Due} → None ≡ Some x → A
nothing e = absurd (nothing-at e)

at-is : {x y : Due} → Some x ≡ Some y → x ≡ y
at-is {x} e = ap due e
  where
    due : Found → Due
    due None = x
    due (Some z) = z

next_found : (t : Seconds) (s : State) (d : Found) (x : Due) → Placed (length s.lines) d → in_time t s.end s.left d ≡ Some x → Next t s x
unfolding in_time
next_found t s None x p e = nothing e
next_found t s (Some y) x p e = go (ltb t.0 y.second.0) (leb s.end.0 y.second.0) (ltb 0 s.left) refl refl e
  where
    go : (a b c : Bool) → leb s.end.0 y.second.0 ≡ b → ltb 0 s.left ≡ c → cond a None (cond b None (cond c (Some y) None)) ≡ Some x
        → Next t s x
    go true b c eb ec e = nothing e
    go false true c eb ec e = nothing e
    go false false false eb ec e = nothing e
    go false false true eb ec e =
        subst (Next t s) (at-is e) (record { place = unfold Placed in p; before_end = leb-false _ _ eb; left = ltb-true _ _ ec })

pub next-is : (t : Seconds) (s : State) (x : Due) → next_due t s ≡ Some x → Next t s x
unfolding next_due
next-is t s x e =
    next_found t s (earliest s.hold 0 s.lines None) x
    (subst (λ (k : ℕ). Placed k (earliest s.hold 0 s.lines None)) (omega arith) (placed-earliest s.hold 0 s.lines None (unfold Placed in tt))) e
