-- The closing rows in a lent buffer.
use Rattle.std.specs.Prelude.{cond, List, map, ℕ, ◌*◌, ltb, ℤ, length, Ok}
use Rattle.method.specs.told.Rows.{closing_row, numbers_of}
use Rattle.rows.specs.Buffer.{written}
use Rattle.rows.specs.Answer.{RowsAnswer, no_room}
use Rattle.corridor.specs.declared.Session.{Session}
use Rattle.corridor.specs.View.{view}

-- the closing rows in numbers
abbrev pub closing_numbers : Session → List ℤ
closing_numbers s = numbers_of (map closing_row (view s).lines)

-- what is handed back for a buffer of so many numbers
unfoldable pub closed : Session → ℕ → RowsAnswer
closed s size = cond (ltb size (6 * s.count)) (no_room (6 * s.count)) (Ok (6 * s.count))

-- what the buffer holds then
unfoldable pub closed_into : Session → List ℤ → List ℤ
closed_into s out = cond (ltb (length out) (6 * s.count)) out (written out 0 (closing_numbers s))
