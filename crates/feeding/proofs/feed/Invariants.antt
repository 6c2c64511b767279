-- At the head of the loop: what is ahead of the buffer's events gives what all of them give, the ids are the session's, and before the quiet
-- second nothing is due.
use Rattle.std.specs.Slice.Iter.{chunks_rest, chunks_size}
use Rattle.std.specs.Iterator.Adapters.{enumerate_source, enumerate_count}
use Rattle.feeding.proofs.Turns.{Turn}
use Rattle.feeding.proofs.feed.Given as goal

abbrev pub invariant-loop-event : goal.invariant-loop-event
invariant-loop-event l =
    let pieces = enumerate_source l.event-iterator in
    Turn l.fn.session l.events l.initial.out l.ids.items l.session l.quiet l.at (chunks_rest pieces) (chunks_size pieces) (enumerate_count l.event-iterator) l.out
