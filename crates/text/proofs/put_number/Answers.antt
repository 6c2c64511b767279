-- The library's decimals are the method's, and the byte stands after them.
use Rattle.std.proofs.Common.{ap, ◌∙◌, arith}
use Rattle.std.specs.Fmt.{signed_decimal}
use Rattle.text.proofs.Digits.{signed-is}
use Rattle.text.proofs.Putting.{put_byte, put_on, put_as, read_back}
use Rattle.text.proofs.put_number.Goals as goal

pub returns-clause-put : goal.returns-clause-put
returns-clause-put c =
    let digits = c.format.ensures.text ∙ ap signed_decimal (read_back c.args.n c.ranges.n.sfits) ∙ signed-is c.args.n c.ranges.n.sfits in
    put_on (put_as digits c.put-end.ensures) (omega arith) (put_byte _ _ c.args.after (omega arith))
