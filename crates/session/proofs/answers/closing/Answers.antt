-- The numbers that were counted are those of the closing rows.
use Rattle.std.proofs.Common.{length, map, ap, arith}
use Rattle.method.specs.told.Rows.{closing_row}
use Rattle.corridor.specs.View.{view}
use Rattle.closing.specs.Closing.{closing_numbers}
use Rattle.counting.proofs.Answering.{closing_few}
use Rattle.session.proofs.Texts.{front, said}
use Rattle.session.proofs.answers.closing.Goals as goal

pub lines-requires : goal.lines-requires
lines-requires c =
    let count = c.closed-count.ensures in
    let numbers = front c.args.numbers.now (closing_numbers c.args.s.now) count.numbers_after count.value in
    omega (arith, ap length numbers, closing_few c.args.s.now c.requires.0, c.requires.1)

pub returns : goal.returns
returns c =
    let count = c.closed-count.ensures in
    said (map closing_row (view c.args.s.now).lines)
    (front c.args.numbers.now (closing_numbers c.args.s.now) count.numbers_after count.value) c.lines.ensures
