-- Rows in numbers have the lines that the method gives them. Assumes nothing.
use mathlib.Core.Path.{◌≡◌, refl, sym, ap, ◌∙◌}
use mathlib.Core.List.{List, [], ◌∷◌, ◌++◌, append_assoc, append-nil}
use Prim.Native.Nat.{ℕ, zero, suc, ◌+◌, ◌*◌, ◌/◌, ◌<◌}
use native.Mathlib.Numerals.{add-one}
use native.Mathlib.Omega.{arith}
use borrow.Author.Tests.{ne_eqb}
use lib.IntN.{ℤ, pos}
use lib.ListN.{length, get_or, take, drop}
use Rattle.std.specs.Simd.{first_chunks}
use lib.Seq.{take_at, drop_at, drop-drop}
use Rattle.method.specs.declared.Side.{Side}
use Rattle.method.specs.declared.Side.TheVariants.{Up, Down}
use Rattle.method.specs.declared.Row.{Row}
use Rattle.method.specs.told.Refusals.{table_number, field_number}
use Rattle.method.specs.told.Rows.{side_number, row_numbers, numbers_of}
use Rattle.method.specs.told.Text.{ascii, decimal, line_with, side_letter, field_text, line_text, text_of}
use Rattle.rows.proofs.Buffer.{row_long, numbers-long}
use Rattle.text.specs.Line.{letter, refused_table_text, numbers_text, lines_text, all_text}

letter-is : (side : Side) → letter (pos (side_number side)) ≡ side_letter side
letter-is Up = refl
letter-is Down = refl

-- a field stands at the end of the line where it is not 0
field_is : (number line field : ℕ)
    → refused_table_text (pos 3 ∷ pos number ∷ pos line ∷ pos field ∷ pos 0 ∷ pos 0 ∷ []) ≡ line_with (ascii "T" ∷ decimal number ∷ decimal line ∷ field_text field)
field_is number line zero = refl
field_is number line (suc n) = rw (ne_eqb (suc n) 0 (λ e. omega arith))

pub line-is : (row : Row) → numbers_text (row_numbers row) ≡ line_text row
unfolding numbers_text row_numbers line_text
line-is (Row.Shift c) = rw (letter-is c.side)
line-is (Row.RefusedEvent why place) = refl
line-is (Row.RefusedTable why line) = field_is (table_number why) line (field_number why)
line-is (Row.Closed c) = refl

-- ---- many rows
-- the rows one after another
pub row_at : (k i : ℕ) (numbers : List ℤ) (d : List ℤ) → i < k → get_or (first_chunks 6 k numbers) i d ≡ take 6 (drop (6 * i) numbers)
row_at zero i numbers d h = elim h [ ]
row_at (suc k) zero numbers d h = refl
row_at (suc k) (suc i) numbers d h =
    let further : 6 + 6 * i ≡ 6 * suc i = omega arith in
    row_at k i (drop 6 numbers) d (omega arith) ∙ ap (take 6) (drop-drop (6 * i) 6 numbers ∙ ap (λ (n : ℕ). drop n numbers) further)

pub lines_on : (i : ℕ) (numbers : List ℤ) {row : List ℤ} → row ≡ take 6 (drop (6 * i) numbers)
    → lines_text i numbers ++ numbers_text row ≡ lines_text (i + 1) numbers
unfolding lines_text
lines_on i numbers e = rw (e, add-one i)

past : (n : ℕ) (front rest : List ℤ) → length front ≡ 6 → drop (6 * suc n) (front ++ rest) ≡ drop (6 * n) rest
past n front rest h =
    let further : 6 * suc n ≡ 6 + 6 * n = omega arith in
    ap (λ (k : ℕ). drop k (front ++ rest)) further ∙ sym (drop-drop (6 * n) 6 (front ++ rest)) ∙ ap (drop (6 * n)) (drop_at front rest 6 h)

-- a line in front of the others
lines_after : (n : ℕ) (front rest : List ℤ) → length front ≡ 6 → lines_text (suc n) (front ++ rest) ≡ numbers_text front ++ lines_text n rest
unfolding lines_text
lines_after zero front rest h = rw (take_at front rest 6 h, append-nil (numbers_text front))
lines_after (suc n) front rest h =
    let further : drop (6 * suc n) (front ++ rest) ≡ drop (6 * n) rest = past n front rest h in
    rw (further) (ap (λ (t : List ℕ). t ++ numbers_text (take 6 (drop (6 * n) rest))) (lines_after n front rest h) ∙ append_assoc (numbers_text front) (lines_text n rest) (numbers_text (take 6 (drop (6 * n) rest))))

lines_are : (rows : List Row) → lines_text (length rows) (numbers_of rows) ≡ text_of rows
lines_are [] = unfold lines_text in refl
lines_are (row ∷ rows) =
    lines_after (length rows) (row_numbers row) (numbers_of rows) (row_long row) ∙ rw (line-is row, lines_are rows)

pub all_are : (rows : List Row) → all_text (numbers_of rows) ≡ text_of rows
all_are rows =
    let many : length (numbers_of rows) / 6 ≡ length rows = omega (arith, numbers-long rows) in
    ap (λ (n : ℕ). lines_text n (numbers_of rows)) many ∙ lines_are rows
