-- What program `session` prints, as rows and as bytes, computed.
use Rattle.std.specs.Prelude.{List, [], ◌∷◌, ◌++◌, map, ℕ}
use Rattle.method.specs.words.Types.{State}
use Rattle.method.specs.words.Tables.{Opening, opened, refused}
use Rattle.method.specs.told.Types.{Row}
use Rattle.method.specs.told.Rows.{rows_of_all, closing_row}
use Rattle.method.specs.told.Program.{table_of, events_in}
use Rattle.method.specs.told.Text.{text_of}
use Rattle.method.specs.computed.Table.{opening}
use Rattle.method.specs.computed.Search.{run, finally}

unfoldable pub session_rows : State → List (List ℕ) → List Row
session_rows s events = rows_of_all (run s events) ++ map closing_row (finally s events).lines

-- of a refused table one row, whatever follows (METHOD 22.3)
unfoldable pub rows_after : Opening → List (List ℕ) → List Row
rows_after (opened s) events = session_rows s events
rows_after (refused why line) events = Row.RefusedTable why line ∷ []

unfoldable pub program : List ℕ → List Row
program input = rows_after (opening (table_of input)) (events_in input)

abbrev pub output : List ℕ → List ℕ
output input = text_of (program input)
