-- What is ahead of the buffer's events gives what all of them give.
use Rattle.std.proofs.Common.{◌≡◌}
use Rattle.std.specs.Slice.Iter.{chunks_rest, chunks_size}
use Rattle.std.specs.Iterator.Adapters.{enumerate_source, enumerate_count}
use Rattle.feeding.proofs.Feeding.{Ahead}
use Rattle.stepwise.proofs.feed.Given as goal

abbrev pub invariant-loop-event : goal.invariant-loop-event
invariant-loop-event l =
    let pieces = enumerate_source l.event-iterator in
    record {
      ahead : Ahead l.fn.session l.events l.initial.out l.session l.at (chunks_rest pieces) (enumerate_count l.event-iterator) l.out;
      twenty : chunks_size pieces ≡ 20;
    }
