-- Every entry of the sheet is the method's own up factor: one test over the whole sheet, which is computed, and one lemma. Assumes nothing.
use mathlib.Core.Path.{◌≡◌, refl, ap, ◌∙◌}
use mathlib.Core.Bool.{Bool, true, ◌&&◌}
use mathlib.Core.List.{List, [], ◌∷◌}
use Prim.Native.Nat.{ℕ, zero, suc, ◌+◌, ◌*◌, ◌≤◌, ◌<◌}
use native.Mathlib.Nat.{add-zero, zero-add, not-suc-le-zero, le_of_suc-le-suc}
use native.Mathlib.Omega.{arith}
use borrow.Author.Tests.{eqb-true}
use lib.Dec.{eqb}
use lib.ListN.{length, get_or}
use mir.Syntax.{w64}
use mir.Val.{Fits}
use Rattle.numbers.proofs.Tests.{both}
use Rattle.method.specs.words.Growth.{most_exponent, term, series, outer_part, up_factor}
use Rattle.method.proofs.Growth.{up-between}
use Rattle.growth_sheet.specs.Sheet.{a_thousandth, sheet}

-- the test: x is the entry at thousandth k; and so on, over entries that begin there
abbrev right : ℕ → ℕ → Bool
right k x = eqb x (up_factor (k * a_thousandth))

right-from : ℕ → List ℕ → Bool
right-from k [] = true
right-from k (x ∷ xs) = right k x && right-from (suc k) xs

-- the lemma: what the test finds holds at each place
right-at : (k : ℕ) (xs : List ℕ) → right-from k xs ≡ true → (i : ℕ) → i < length xs → get_or xs i 0 ≡ up_factor ((k + i) * a_thousandth)
unfolding right-from
right-at k [] e i h = absurd (not-suc-le-zero h)
right-at k (x ∷ xs) e zero h = rw add-zero (eqb-true x _ (both (right k x) (right-from (suc k) xs) e).0)
right-at k (x ∷ xs) e (suc i) h =
    let rest = right-at (suc k) xs (both (right k x) (right-from (suc k) xs) e).1 i (le_of_suc-le-suc h) in
    rest ∙ ap (λ (n : ℕ). up_factor (n * a_thousandth)) (omega arith)

-- where it is refused, `second/check sheet` names the wrong entry of the page that is printed from the code
all_right : right-from 0 sheet ≡ true
unfolding right-from sheet up_factor outer_part series term
all_right = refl

pub on_sheet : (k : ℕ) → k * a_thousandth ≤ most_exponent → get_or sheet k 0 ≡ up_factor (k * a_thousandth)
unfolding sheet
on_sheet k h = rw zero-add at (right-at 0 sheet all_right k (omega (arith, h)))

pub entry_fits : (k : ℕ) → k * a_thousandth ≤ most_exponent → Fits w64 (get_or sheet k 0)
entry_fits k h = record { fits = rw (on_sheet k h) (omega (arith, up-between (k * a_thousandth) h)) }
