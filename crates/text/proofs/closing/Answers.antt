-- The five numbers stand in the buffer one after another.
use Rattle.std.proofs.Common.{rules, arith}
use Rattle.text.specs.Line.{number}
use Rattle.text.proofs.Putting.{put_on, put_back}
use Rattle.text.proofs.closing.Goals as goal

pub returns-clause-put : goal.returns-clause-put
returns-clause-put c =
    let row = c.args.row in
    let upperbound = put_back (number row 5) 10 (search rules) c.put_number.ensures.put in
    let lowerbound = put_on (put_back (number row 4) 32 (search rules) c.put_number-after_lowerbound.ensures.put) (omega arith) upperbound in
    let upper = put_on (put_back (number row 3) 32 (search rules) c.put_number-after_upper.ensures.put) (omega arith) lowerbound in
    let lower = put_on (put_back (number row 2) 32 (search rules) c.put_number-after_lower.ensures.put) (omega arith) upper in
    put_on (put_back (number row 1) 32 (search rules) c.put_number-after_id.ensures.put) (omega arith) lower
