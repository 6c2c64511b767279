-- The line of text that six numbers are: a row's kind and its values (METHOD 22), whatever numbers they are; and the lines of many rows.
use Rattle.std.specs.Prelude.{◌≡◌, Bool, false, cond, List, [], ◌∷◌, ◌++◌, ℕ, zero, suc, ◌+◌, ◌*◌, ◌/◌, eqb, ℤ, pos, negsuc, length, get_or, take, drop}
use Rattle.method.specs.told.Text.{ascii, signed_text, line_with}
use Rattle.rows.specs.Buffer.{written}

-- whether z is n
abbrev pub is : ℤ → ℕ → Bool
is (pos m) n = eqb m n
is (negsuc m) n = false

abbrev pub number : List ℤ → ℕ → ℤ
number row i = get_or row i (pos 0)

abbrev pub field : List ℤ → ℕ → List ℕ
field row i = signed_text (number row i)

abbrev pub letter : ℤ → List ℕ
letter side = cond (is side 0) (ascii "U") (ascii "D")

-- ---- by its kind
abbrev pub shift_text : List ℤ → List ℕ
shift_text row = line_with (field row 1 ∷ letter (number row 2) ∷ field row 3 ∷ [])

abbrev pub refused_event_text : List ℤ → List ℕ
refused_event_text row = line_with (ascii "R" ∷ field row 1 ∷ [])

-- the field at fault, where one is named: its place is not 0
abbrev pub fault : List ℤ → List (List ℕ)
fault row = cond (is (number row 3) 0) [] (field row 3 ∷ [])

abbrev pub refused_table_text : List ℤ → List ℕ
refused_table_text row = line_with (ascii "T" ∷ field row 1 ∷ field row 2 ∷ fault row)

abbrev pub closed_text : List ℤ → List ℕ
closed_text row = line_with (field row 1 ∷ field row 2 ∷ field row 3 ∷ field row 4 ∷ field row 5 ∷ [])

unfoldable pub numbers_text : List ℤ → List ℕ
numbers_text row =
    let kind : ℤ = number row 0 in
    cond (is kind 1) (shift_text row) (cond (is kind 2) (refused_event_text row) (cond (is kind 3) (refused_table_text row) (closed_text row)))

-- the lines of the first n rows of six, and of all
unfoldable pub lines_text : ℕ → List ℤ → List ℕ
lines_text zero numbers = []
lines_text (suc n) numbers = lines_text n numbers ++ numbers_text (take 6 (drop (6 * n) numbers))

abbrev pub all_text : List ℤ → List ℕ
all_text numbers = lines_text (length numbers / 6) numbers

-- A text put into a buffer from `at` on: what the buffer holds then, and the place after the text.
pub record Put (before : List ℕ) (at : ℕ) (text : List ℕ) (after : List ℕ) (end : ℕ) : Type 0 where
  pub buffer : after ≡ written before at text
  pub place : end ≡ at + length text
