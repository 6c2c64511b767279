-- The answer that is written in rows: how many numbers there are, or how many the lent buffer would have to take, and nothing done.
use Rattle.std.specs.Prelude.{ℕ, Result, Err}
use Rattle.rows.specs.declared.NoRoom.{NoRoom}

abbrev pub RowsAnswer : Type 0
RowsAnswer = Result ℕ NoRoom

abbrev pub no_room : ℕ → RowsAnswer
no_room n = Err (record { needed = n })
