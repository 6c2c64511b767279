-- What the program prints, as bytes (METHOD 22): a number in decimals, a row as a line, and what is written for an input.
use Rattle.std.specs.Prelude.{◌≡◌, cond, List, [], ◌∷◌, ◌++◌, ℕ, zero, suc, ◌+◌, ◌/◌, ◌%◌, ltb, ℤ, pos, negsuc}
use Prim.Native.Char.{code}
use Prim.Native.String.{String, [] as no-letter, ◌∷◌ as ◌then◌}
use Rattle.method.specs.words.Types.{Side, Up, Down}
use Rattle.method.specs.told.Types.{Row}
use Rattle.method.specs.told.Refusals.{table_number, field_number, event_number}
use Rattle.method.specs.told.Program.{Prints}

-- a text in quotes as bytes: every letter in this file is one byte, its code
abbrev pub ascii : String → List ℕ
ascii no-letter = []
ascii (letter then more) = code letter ∷ ascii more

-- ---- a number in decimals, with no zeros in front
abbrev pub digit : ℕ → ℕ
digit d = code "0" + d

-- The last digit stands after those of n / 10. The turns only bound how often that is asked, and n + 1 of them are always enough.
unfoldable pub decimal_in : ℕ → ℕ → List ℕ
decimal_in zero n = []
decimal_in (suc turns) n =
    let more : List ℕ = decimal_in turns (n / 10) ++ (digit (n % 10) ∷ []) in
    cond (ltb n 10) (digit n ∷ []) more

abbrev pub decimal : ℕ → List ℕ
decimal n = decimal_in (suc n) n

-- `-` before a negative one (METHOD 22.7)
abbrev pub signed_text : ℤ → List ℕ
signed_text (pos n) = decimal n
signed_text (negsuc n) = ascii "-" ++ decimal (suc n)

-- ---- a row as a line
-- one space between two fields, and a line feed at the end (METHOD 22.7)
abbrev pub line_with : List (List ℕ) → List ℕ
line_with [] = ascii "\n"
line_with (field ∷ []) = field ++ ascii "\n"
line_with (field ∷ next ∷ fields) = field ++ ascii " " ++ line_with (next ∷ fields)

abbrev pub side_letter : Side → List ℕ
side_letter Up = ascii "U"
side_letter Down = ascii "D"

-- the place of the field at fault, where one is named (METHOD 22.3)
abbrev pub field_text : ℕ → List (List ℕ)
field_text zero = []
field_text (suc n) = decimal (suc n) ∷ []

-- by its kind (METHOD 22.6)
unfoldable pub line_text : Row → List ℕ
line_text (Row.Shift c) = line_with (decimal c.second.0 ∷ side_letter c.side ∷ decimal c.id ∷ [])
line_text (Row.RefusedEvent why place) = line_with (ascii "R" ∷ decimal (event_number why) ∷ [])
line_text (Row.RefusedTable why line) = line_with (ascii "T" ∷ decimal (table_number why) ∷ decimal line ∷ field_text (field_number why))
line_text (Row.Closed c) =
    line_with
    (decimal c.id
    ∷ signed_text c.lower.0
    ∷ signed_text c.upper.0
    ∷ signed_text c.lowerbound.0
    ∷ signed_text c.upperbound.0
    ∷ [])

-- ---- all rows, and what an input comes to
abbrev pub text_of : List Row → List ℕ
text_of [] = []
text_of (row ∷ rows) = line_text row ++ text_of rows

pub record Writes (input bytes : List ℕ) : Type 0 where
  pub rows : List Row
  pub prints : Prints input rows
  pub text : bytes ≡ text_of rows
