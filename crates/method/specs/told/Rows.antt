-- What is told of a session, as rows (METHOD 22), and each row in numbers.
use Rattle.std.specs.Prelude.{List, [], ◌∷◌, ◌++◌, map, ℕ, suc, ℤ, pos}
use Rattle.method.specs.words.Types.{Side, Up, Down, Line, steps}
use Rattle.method.specs.words.Bounds.{bound}
use Rattle.method.specs.words.Sessions.{Answer, accepted, refused}
use Rattle.method.specs.told.Types.{Row}
use Rattle.method.specs.told.Refusals.{table_number, field_number, event_number}

-- ---- the rows of an answer, and of all answers: one for each shift, and one for each refused event, with its place (METHOD 22.4, 22.8)
-- of the answer to the event at a place
unfoldable pub rows_of : ℕ → Answer → List Row
rows_of place (accepted cs) = map Row.Shift cs
rows_of place (refused why) = Row.RefusedEvent why place ∷ []

-- of the answers to the events from a place on, and of all answers to a buffer, whose places are counted from 1
unfoldable pub rows_from : ℕ → List Answer → List Row
rows_from place [] = []
rows_from place (a ∷ rs) = rows_of place a ++ rows_from (suc place) rs

abbrev pub rows_of_all : List Answer → List Row
rows_of_all rs = rows_from 1 rs

-- the closing row of a contract (METHOD 22.5)
unfoldable pub closing_row : Line → Row
closing_row l =
    Row.Closed
    (record {
      id = l.terms.id;
      lower = l.limits.lower;
      upper = l.limits.upper;
      lowerbound = steps (bound Down l.terms.factors l.market);
      upperbound = steps (bound Up l.terms.factors l.market);
    })

-- ---- a row in six numbers: its kind, its values in the printed order and, of a refused event, its place; with 0 where nothing stands (METHOD 22.8)
abbrev pub side_number : Side → ℕ
side_number Up = 0
side_number Down = 1

unfoldable pub row_numbers : Row → List ℤ
row_numbers (Row.Shift c) = pos 1 ∷ pos c.second.0 ∷ pos (side_number c.side) ∷ pos c.id ∷ pos 0 ∷ pos 0 ∷ []
row_numbers (Row.RefusedEvent why place) = pos 2 ∷ pos (event_number why) ∷ pos place ∷ pos 0 ∷ pos 0 ∷ pos 0 ∷ []
row_numbers (Row.RefusedTable why line) = pos 3 ∷ pos (table_number why) ∷ pos line ∷ pos (field_number why) ∷ pos 0 ∷ pos 0 ∷ []
row_numbers (Row.Closed c) =
    pos 4 ∷ pos c.id ∷ c.lower.0 ∷ c.upper.0 ∷ c.lowerbound.0 ∷ c.upperbound.0 ∷ []

-- rows in numbers, one after another
abbrev pub numbers_of : List Row → List ℤ
numbers_of [] = []
numbers_of (row ∷ rows) = row_numbers row ++ numbers_of rows
