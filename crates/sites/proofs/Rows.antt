-- The rows of shifts among the rows of answers are those of the joined shift lines. Assumes nothing.
use mathlib.Core.Path.{◌≡◌, refl, sym, ap, ◌∙◌}
use mathlib.Core.List.{List, [], ◌∷◌, ◌++◌, map, append_assoc}
use Prim.Native.Nat.{ℕ, suc, ◌/◌}
use native.Mathlib.Omega.{arith}
use lib.IntN.{ℤ}
use lib.ListN.{length}
use Rattle.method.specs.declared.ShiftLine.{ShiftLine}
use Rattle.method.specs.declared.Row.{Row}
use Rattle.method.specs.words.Sessions.{Answer, accepted, refused, joined}
use Rattle.method.specs.told.Rows.{rows_of, rows_from, rows_of_all, row_numbers, numbers_of}
use Rattle.rows.proofs.Buffer.{numbers-long}
use Rattle.feeding.specs.Chunks.{raised}
use Rattle.sites.specs.Sites.{shifts_among, only_shifts, OnlyShiftsAreLines}

-- ---- as rows
abbrev line_of : Row → List ShiftLine
line_of (Row.Shift c) = c ∷ []
line_of (Row.RefusedEvent why place) = []
line_of (Row.RefusedTable why line) = []
line_of (Row.Closed c) = []

abbrev pub lines_in : List Row → List ShiftLine
lines_in [] = []
lines_in (row ∷ rows) = line_of row ++ lines_in rows

pub lines-append : (rows more : List Row) → lines_in (rows ++ more) ≡ lines_in rows ++ lines_in more
lines-append [] more = refl
lines-append (row ∷ rows) more = rw (lines-append rows more) (sym (append_assoc (line_of row) (lines_in rows) (lines_in more)))

-- no place is looked at
line_still : (k : ℕ) (row : Row) → line_of (raised k row) ≡ line_of row
line_still k (Row.Shift c) = refl
line_still k (Row.RefusedEvent why place) = refl
line_still k (Row.RefusedTable why line) = refl
line_still k (Row.Closed c) = refl

pub lines_still : (k : ℕ) (rows : List Row) → lines_in (map (raised k) rows) ≡ lines_in rows
lines_still k [] = refl
lines_still k (row ∷ rows) = rw (line_still k row, lines_still k rows)

of_shifts : (cs : List ShiftLine) → lines_in (map Row.Shift cs) ≡ cs
of_shifts [] = refl
of_shifts (c ∷ cs) = ap (λ (ds : List ShiftLine). c ∷ ds) (of_shifts cs)

lines-joined : (n : ℕ) (rs : List Answer) → lines_in (rows_from n rs) ≡ joined rs
unfolding rows_from rows_of joined
lines-joined n [] = refl
lines-joined n (accepted cs ∷ rs) = lines-append (map Row.Shift cs) (rows_from (suc n) rs) ∙ rw (of_shifts cs, lines-joined (suc n) rs)
lines-joined n (refused why ∷ rs) = lines-joined (suc n) rs

-- ---- in numbers
in_numbers : (rows : List Row) → shifts_among (length rows) (numbers_of rows) ≡ numbers_of (map Row.Shift (lines_in rows))
unfolding shifts_among row_numbers
in_numbers [] = refl
in_numbers (Row.Shift c ∷ rows) = ap (λ (ns : List ℤ). row_numbers (Row.Shift c) ++ ns) (in_numbers rows)
in_numbers (Row.RefusedEvent why place ∷ rows) = in_numbers rows
in_numbers (Row.RefusedTable why line ∷ rows) = in_numbers rows
in_numbers (Row.Closed c ∷ rows) = in_numbers rows

pub only_shifts_of : (rows : List Row) → only_shifts (numbers_of rows) ≡ numbers_of (map Row.Shift (lines_in rows))
only_shifts_of rows =
    let sixth : length (numbers_of rows) / 6 ≡ length rows = omega (arith, numbers-long rows) in
    rw (sixth, in_numbers rows)

pub only_shifts_are_lines : OnlyShiftsAreLines
only_shifts_are_lines rs = only_shifts_of (rows_of_all rs) ∙ ap (λ (cs : List ShiftLine). numbers_of (map Row.Shift cs)) (lines-joined 1 rs)
