-- A chunk's answers and their count: where the room is there, `feed` writes all of them.
use Rattle.std.proofs.Common.{length, ap, ◌∙◌}
use Rattle.feeding.proofs.Chunks.{fed_answer-is, fed_session-is, fed_into-is}
use Rattle.counting.specs.Counted.{number_in}
use Rattle.counting.proofs.counted.Goals as goal

pub returns-clause-value : goal.returns-clause-value
returns-clause-value c =
    c.number_in.ensures
    ∙ ap number_in (c.feed.ensures.value ∙ fed_answer-is c.args.s.now (length c.args.numbers.now) c.args.chunk.now c.requires.1)

pub returns-clause-session_after : goal.returns-clause-session_after
returns-clause-session_after c =
    c.feed.ensures.left ∙ fed_session-is c.args.s.now (length c.args.numbers.now) c.args.chunk.now c.requires.1

pub returns-clause-numbers_after : goal.returns-clause-numbers_after
returns-clause-numbers_after c = c.feed.ensures.out_after ∙ fed_into-is c.args.s.now c.args.numbers.now c.args.chunk.now c.requires.1
