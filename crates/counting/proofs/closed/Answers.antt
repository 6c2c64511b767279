-- The closing rows and their count: where the room is there, `close` writes all of them.
use Rattle.std.proofs.Common.{ap, ◌∙◌}
use Rattle.counting.specs.Counted.{number_in}
use Rattle.counting.proofs.Answering.{closing_count, closing_written}
use Rattle.counting.proofs.closed.Goals as goal

pub returns-clause-value : goal.returns-clause-value
returns-clause-value c =
    c.number_in.ensures ∙ ap number_in c.close.ensures.value ∙ closing_count c.args.s.now c.requires.0 c.args.numbers.now c.requires.1

pub returns-clause-numbers_after : goal.returns-clause-numbers_after
returns-clause-numbers_after c = c.close.ensures.out_after ∙ closing_written c.args.s.now c.requires.0 c.args.numbers.now c.requires.1
