-- The second, the side and the id stand in the buffer one after another.
use Rattle.std.proofs.Common.{ℤ, ◌++◌, rules, ap, ◌∙◌, arith}
use Rattle.method.specs.told.Text.{ascii}
use Rattle.text.specs.Line.{number, letter}
use Rattle.text.proofs.Putting.{put_on, put_as, put_back, read_back}
use Rattle.text.proofs.shift.Goals as goal

pub returns-clause-put : goal.returns-clause-put
returns-clause-put c =
    let row = c.args.row in
    let side = c.side_letter.ensures.text ∙ ap (λ (z : ℤ). letter z ++ ascii " ") (read_back (number row 2) (search rules)) in
    let id = put_on (put_as side c.put-after_side.ensures) (omega arith) (put_back (number row 3) 10 (search rules) c.put_number.ensures.put) in
    put_on (put_back (number row 1) 32 (search rules) c.put_number-after_second.ensures.put) (omega arith) id
