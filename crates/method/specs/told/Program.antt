-- What program `session` prints for a whole input, as rows (METHOD 22).
use Rattle.std.specs.Prelude.{List, [], ◌∷◌, ◌++◌, map, ℕ, zero, suc, ◌+◌, ◌/◌, length, take, drop}
use Rattle.method.specs.words.Types.{TableReason, State}
use Rattle.method.specs.words.Layout.{header_of, table_length}
use Rattle.method.specs.words.Tables.{opened, refused, TableAnswered}
use Rattle.method.specs.words.Sessions.{Answer, AnswersInWords}
use Rattle.method.specs.told.Types.{Row}
use Rattle.method.specs.told.Rows.{rows_of_all, closing_row}

-- n events of 20 bytes each; the last may be cut short, and is then no event (METHOD 22.2)
unfoldable pub pieces : ℕ → List ℕ → List (List ℕ)
pieces zero b = []
pieces (suc n) b = take 20 b ∷ pieces n (drop 20 b)

abbrev pub events_of : List ℕ → List (List ℕ)
events_of b = pieces ((length b + 19) / 20) b

-- the table is as long as the header's counts say, and what follows it is events (METHOD 22.1)
abbrev pub table_of : List ℕ → List ℕ
table_of input = take (table_length (header_of input)) input

abbrev pub events_in : List ℕ → List (List ℕ)
events_in input = events_of (drop (table_length (header_of input)) input)

-- Of a refused table one row; else the rows of the answers to all events, and a closing row for each contract. (METHOD 22.3, 22.4, 22.5)
pub data Prints (input : List ℕ) : List Row → Type 0 where
  refusal : {why : TableReason} {line : ℕ} → TableAnswered (table_of input) (refused why line) → Prints input (Row.RefusedTable why line ∷ [])
  session :
      {o n : State} {rs : List Answer} → TableAnswered (table_of input) (opened o) → AnswersInWords o (events_in input) rs n
      → Prints input (rows_of_all rs ++ map closing_row n.lines)
