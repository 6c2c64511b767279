-- The numbers that were counted are those of the rows that are told.
use Rattle.std.proofs.Common.{length, ap, arith}
use Rattle.method.specs.told.Rows.{rows_of_all}
use Rattle.method.specs.told.Program.{events_of}
use Rattle.method.specs.computed.Search.{run}
use Rattle.corridor.specs.View.{view}
use Rattle.feeding.specs.Feeding.{told}
use Rattle.feeding.proofs.Chunks.{told_fits}
use Rattle.session.proofs.Texts.{front, said}
use Rattle.session.proofs.answers.chunk.Goals as goal

pub lines-requires : goal.lines-requires
lines-requires c =
    let count = c.counted-count.ensures in
    let numbers = front c.args.numbers.now (told c.args.s.now c.args.events.now) count.numbers_after count.value in
    omega (arith, ap length numbers, told_fits c.args.s.now c.args.events.now c.requires.0, c.requires.1)

pub returns-clause-begins : goal.returns-clause-begins
returns-clause-begins c =
    let count = c.counted-count.ensures in
    said (rows_of_all (run (view c.args.s.now) (events_of c.args.events.now)))
    (front c.args.numbers.now (told c.args.s.now c.args.events.now) count.numbers_after count.value) c.lines.ensures
