-- What is decided of each row, said of all of them. Assumes nothing.
use mathlib.Core.List.{List}
use Prim.Native.Nat.{ℕ, zero, suc, ◌≤◌, ◌<◌}
use native.Mathlib.Omega.{arith}
use lib.ListN.{length, get_or, take}
use lib.Seq.{take-suc, get_or-take, length-take-le}
use Rattle.method.specs.words.Types.{blank}
use Rattle.method.specs.words.Ranges.{Every}
use Rattle.method.specs.computed.Rooms.{Room}
use Rattle.method.specs.computed.Sound.{Exact}
use Rattle.method.proofs.Every.{every_at, every_last}
use Rattle.host_line.specs.Names.{Millionths, Line}

-- ---- the first n rows of an array, row by row
module _ {A : Type 0} (P : A → Type 0) (xs : List A) (d : A) where
  every_first : (n : ℕ) → n ≤ length xs → ((i : ℕ) → i < n → P (get_or xs i d)) → Every P (take n xs)
  every_first zero h p = unfold Every in tt
  every_first (suc n) h p =
      rw (take-suc xs n d) (every_last P (take n xs) (get_or xs n d) (every_first n (omega arith) (λ i g. p i (omega arith))) (p n (omega arith)))

  first_every : (n : ℕ) → n ≤ length xs → Every P (take n xs) → (i : ℕ) → i < n → P (get_or xs i d)
  first_every n h ps i g =
      let inside : i < length (take n xs) = rw (length-take-le n xs h) g in
      rw (get_or-take n xs i d g) at (every_at P (take n xs) d i ps inside)

-- each of the first n rows has what `line` decides
abbrev pub Rows : Millionths → ℕ → ℕ → List Line → ℕ → Type 0
Rows near left most rows n = (i : ℕ) → i < n → Room most (get_or rows i blank) × Exact near left (get_or rows i blank)

module _ (near : Millionths) (left most : ℕ) (rows : List Line) (n : ℕ) (h : n ≤ length rows) where
  pub rows_all : Rows near left most rows n → Every (Room most) (take n rows) × Every (Exact near left) (take n rows)
  rows_all p = (every_first (Room most) rows blank n h (λ i g. (p i g).0), every_first (Exact near left) rows blank n h (λ i g. (p i g).1))

  pub all_rows : Every (Room most) (take n rows) → Every (Exact near left) (take n rows) → Rows near left most rows n
  all_rows r x i g = (first_every (Room most) rows blank n h r i g, first_every (Exact near left) rows blank n h x i g)
