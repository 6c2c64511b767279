-- Rules 2 and 3 of what runs: a buffer handed to `event` piece by piece, from the session of an accepted table, with room for the rows.
use Rattle.std.specs.Prelude.{◌≡◌, List, ℕ, ◌≤◌, ℤ, length, Ok, IsOkAnd}
use Rattle.method.specs.declared.Side.TheVariants.{Up, Down}
use Rattle.method.specs.words.Types.{State}
use Rattle.method.specs.words.Tables.{opened, TableAnswered}
use Rattle.method.specs.words.Shifts.{Each, count}
use Rattle.method.specs.words.Sessions.{Answer, AnswersInWords, joined}
use Rattle.method.specs.laws.Seen.{Shifted}
use Rattle.method.specs.told.Rows.{rows_of_all, numbers_of}
use Rattle.method.specs.told.Program.{events_of}
use Rattle.method.specs.computed.Table.{opening}
use Rattle.rows.specs.Buffer.{written}
use Rattle.corridor.specs.declared.Session.{Session}
use Rattle.rows.specs.Answer.{RowsAnswer}
use Rattle.corridor.specs.View.{view, opened_session}
use Rattle.feeding.specs.Feeding.{feed_needs, fed_answer, fed_session, fed_into}
use Rattle.corridor.specs.Engine.{one_by_one}

-- r is answered, x is the session then and `now` stands in the buffer, after the answers rs to the byte strings bs, from the opening state o
pub record Rightly (o : State) (bs : List (List ℕ)) (rs : List Answer) (out : List ℤ) (r : RowsAnswer) (x : Session) (now : List ℤ) : Type 0 where
  -- rule 2: the answers are the method's, the session shows the state that they leave, and they are what is told
  pub right : AnswersInWords o bs rs (view x)
  pub counted : r ≡ Ok (length (numbers_of (rows_of_all rs)))
  pub told : now ≡ written out 0 (numbers_of (rows_of_all rs))
  -- rule 3: each line of the session's view is the opening one after as many shifts of each side
  pub shifted : Each (Shifted (count Up (joined rs)) (count Down (joined rs))) o.lines (view x).lines

-- For any bytes that `open` accepts, any bytes of events and any buffer with the room: a session is opened, and what meets the contract from it
-- is right, with the answers that `event` gives to the pieces one by one. [stepwise_is_right]
abbrev pub StepwiseIsRight : Type 0
StepwiseIsRight =
    (table : List ℕ) (o : State) → TableAnswered table (opened o) → (b : List ℕ) (out : List ℤ) → feed_needs (length b) ≤ length out
    → IsOkAnd (opened_session (opening table))
    (λ (s : Session). (r : RowsAnswer) (x : Session) (now : List ℤ) → r ≡ fed_answer s (length out) b → x ≡ fed_session s (length out) b → now ≡ fed_into s out b
    → Rightly o (events_of b) (one_by_one s (events_of b)) out r x now)
