-- The letter and the number stand in the buffer one after another.
use Rattle.std.proofs.Common.{rules, arith}
use Rattle.text.specs.Line.{number}
use Rattle.text.proofs.Putting.{put_on, put_back}
use Rattle.text.proofs.refused_event.Goals as goal

pub returns-clause-put : goal.returns-clause-put
returns-clause-put c = put_on c.put-after_letter.ensures (omega arith) (put_back (number c.args.row 1) 10 (search rules) c.put_number.ensures.put)
