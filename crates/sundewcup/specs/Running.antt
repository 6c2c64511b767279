-- A whole session in a lent buffer: the method's rows of a table and its events.
use Rattle.std.specs.Prelude.{cond, List, ℕ, ◌+◌, ltb, ℤ, length, Ok}
use Rattle.method.specs.words.Ranges.{most_contracts, most_shifts}
use Rattle.method.specs.told.Rows.{numbers_of}
use Rattle.method.specs.told.Program.{events_of}
use Rattle.method.specs.computed.Table.{opening}
use Rattle.method.specs.computed.Program.{rows_after}
use Rattle.rows.specs.Buffer.{written, needed}
use Rattle.rows.specs.Answer.{RowsAnswer, no_room}

-- the room for the rows of a whole session: as many shifts and contracts as there may be
abbrev pub run_needs : ℕ → ℕ
run_needs size = needed size (most_shifts + most_contracts)

-- all rows in numbers
abbrev pub rows_told : List ℕ → List ℕ → List ℤ
rows_told table events = numbers_of (rows_after (opening table) (events_of events))

-- what is handed back for a buffer of so many numbers
unfoldable pub ran : ℕ → List ℕ → List ℕ → RowsAnswer
ran size table events =
    cond (ltb size (run_needs (length events))) (no_room (run_needs (length events))) (Ok (length (rows_told table events)))

-- what the buffer holds then
unfoldable pub ran_into : List ℤ → List ℕ → List ℕ → List ℤ
ran_into out table events = cond (ltb (length out) (run_needs (length events))) out (written out 0 (rows_told table events))
