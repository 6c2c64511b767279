-- A buffer that is written from a place on: of numbers, or of bytes.
use Rattle.std.specs.Prelude.{List, ◌++◌, ℕ, ◌+◌, ◌*◌, ◌/◌, length, take, drop}

-- `out` with xs in it from `at` on, and all else as it was
module _ {A : Type 0} where
  abbrev pub written : List A → ℕ → List A → List A
  written out at xs = take at out ++ xs ++ drop (at + length xs) out

-- the numbers that so many bytes of events may come to: six a row, a row for each event, and so many rows more
abbrev pub needed : ℕ → ℕ → ℕ
needed size more = 6 * ((size + 19) / 20 + more)
