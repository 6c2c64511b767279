-- A buffer that is written from a place on: run after run. Assumes nothing.
use mathlib.Core.Path.{◌≡◌, refl, sym, ap, ◌∙◌}
use mathlib.Core.List.{List, [], ◌∷◌, ◌++◌, map, append_assoc, append-nil, map-append}
use Prim.Native.Nat.{ℕ, ◌+◌, ◌*◌, ◌<◌, ◌≤◌}
use native.Mathlib.Omega.{arith}
use native.Mathlib.Nat.{add_assoc, zero-add}
use native.Mathlib.Numerals.{add-one}
use lib.IntN.{ℤ}
use lib.ListN.{length, get_or, take, drop, length-append, length-drop, length-map}
use lib.Seq.{paste-zero, take-suc, length-take-le, take_at, drop_at, drop-drop}
use Rattle.method.specs.declared.Row.{Row}
use Rattle.method.specs.told.Rows.{row_numbers, numbers_of}
use Rattle.rows.specs.Buffer.{written}

module _ {A : Type 0} where
  pub nothing_written : (out : List A) (at : ℕ) → out ≡ written out at []
  nothing_written out at = paste-zero out at []

  module _ (out : List A) (at : ℕ) (xs : List A) (room : at + length xs ≤ length out) where
    head_long : length (take at out ++ xs) ≡ at + length xs
    head_long = length-append (take at out) xs ∙ ap (λ (n : ℕ). n + length xs) (length-take-le at out (omega arith))

    pub written-long : length (written out at xs) ≡ length out
    written-long = omega (arith, length-append (take at out ++ xs) (drop (at + length xs) out), head_long, length-drop (at + length xs) out)

    rest-kept : (n : ℕ) → drop (at + length xs + n) (written out at xs) ≡ drop (at + length xs + n) out
    rest-kept n =
        sym (drop-drop n (at + length xs) (written out at xs))
        ∙ ap (drop n) (drop_at (take at out ++ xs) (drop (at + length xs) out) (at + length xs) head_long)
        ∙ drop-drop n (at + length xs) out

    -- what is written next to what was written is written with it
    pub written_on : (ys : List A) → written (written out at xs) (at + length xs) ys ≡ written out at (xs ++ ys)
    written_on ys =
        rw
        (take_at (take at out ++ xs) (drop (at + length xs) out) (at + length xs) head_long, rest-kept (length ys), length-append xs ys)
        (rw (append_assoc (take at out) xs ys, add_assoc at (length xs) (length ys)))

  -- what is written into the part from `at` on
  pub written-rest : (out : List A) (at : ℕ) (xs : List A) → take at out ++ written (drop at out) 0 xs ≡ written out at xs
  written-rest out at xs =
      sym (append_assoc (take at out) xs (drop (0 + length xs) (drop at out)))
      ∙ ap (λ (k : ℕ). take at out ++ xs ++ drop k (drop at out)) (zero-add (length xs)) ∙ ap (λ (ys : List A). take at out ++ xs ++ ys) (drop-drop (length xs) at out)

-- ---- rows in numbers
pub row_long : (r : Row) → length (row_numbers r) ≡ 6
unfolding row_numbers
row_long (Row.Shift c) = refl
row_long (Row.RefusedEvent why place) = refl
row_long (Row.RefusedTable why line) = refl
row_long (Row.Closed c) = refl

pub numbers-long : (rs : List Row) → length (numbers_of rs) ≡ 6 * length rs
numbers-long [] = refl
numbers-long (r ∷ rs) = omega (arith, length-append (row_numbers r) (numbers_of rs), row_long r, numbers-long rs)

pub numbers-append : (rs qs : List Row) → numbers_of (rs ++ qs) ≡ numbers_of rs ++ numbers_of qs
numbers-append [] qs = refl
numbers-append (r ∷ rs) qs = rw (numbers-append rs qs) (sym (append_assoc (row_numbers r) (numbers_of rs) (numbers_of qs)))

pub numbers-one : (r : Row) → numbers_of (r ∷ []) ≡ row_numbers r
numbers-one r = append-nil (row_numbers r)

-- ---- things that have a row each, one after another
module _ {A : Type 0} (row_of : A → Row) (out : List ℤ) (at : ℕ) (xs : List A) (i : ℕ) (more : i < length xs) (room : at + 6 * (i + 1) ≤ length out) where
  abbrev first : List ℤ
  first = numbers_of (map row_of (take i xs))

  first-long : length first ≡ 6 * i
  first-long =
      numbers-long (map row_of (take i xs)) ∙ ap (λ (n : ℕ). 6 * n) (length-map (take i xs) row_of ∙ length-take-le i xs (omega arith))

  abbrev row : A → List ℤ
  row d = row_numbers (row_of (get_or xs i d))

  joined : (d : A) → first ++ row d ≡ numbers_of (map row_of (take (i + 1) xs))
  joined d =
      sym (ap (λ (n : ℕ). numbers_of (map row_of (take n xs))) (add-one i) ∙ ap (λ (ys : List A). numbers_of (map row_of ys)) (take-suc xs i d more)
      ∙ ap numbers_of (map-append row_of (take i xs) (get_or xs i d ∷ [])) ∙ numbers-append (map row_of (take i xs)) (row_of (get_or xs i d) ∷ [])
      ∙ ap (λ (ns : List ℤ). first ++ ns) (numbers-one (row_of (get_or xs i d))))

  -- the next row after those before it
  pub row_on : {now next : List ℤ} (d : A) → now ≡ written out at first → next ≡ written now (at + 6 * i) (row d)
      → next ≡ written out at (numbers_of (map row_of (take (i + 1) xs)))
  row_on d e f =
      f ∙ rw (e, sym first-long) (written_on out at first (omega (arith, first-long)) (row d)) ∙ ap (written out at) (joined d)
