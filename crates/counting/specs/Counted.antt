-- What is told, in numbers: how many there are.
use Rattle.std.specs.Prelude.{ℕ, ◌*◌, Ok, Err}
use Rattle.method.specs.words.Ranges.{most_contracts}
use Rattle.rows.specs.Answer.{RowsAnswer}

-- how many numbers there are, or would have to fit
abbrev pub number_in : RowsAnswer → ℕ
number_in (Ok n) = n
number_in (Err refused) = refused.needed

-- as many numbers as closing rows may have: six for each contract that there may be
abbrev pub most_closing : ℕ
most_closing = 6 * most_contracts
