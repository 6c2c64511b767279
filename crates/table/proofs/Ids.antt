-- An id among those of some lines. Assumes nothing.
use mathlib.Core.Path.{◌≡◌, refl, ap}
use mathlib.Core.Bool.{◌||◌}
use mathlib.Core.List.{List, [], ◌∷◌}
use Prim.Native.Nat.{ℕ}
use lib.Dec.{eqb}
use Rattle.std.specs.List.{list_any}
use Rattle.method.specs.told.Questions.{listed}
use Rattle.method.specs.computed.Opening.{ids}
use Rattle.table.specs.Names.{Line}

pub any-listed : (id : ℕ) (lines : List Line) → list_any (λ (l : Line). eqb l.terms.id id) lines ≡ listed id (ids lines)
unfolding listed
any-listed id [] = refl
any-listed id (l ∷ lines) = ap (λ b. eqb l.terms.id id || b) (any-listed id lines)
