-- Chunks of whole events were read and answered.
use Rattle.session.proofs.Going.{Going}
use Rattle.session.proofs.chunks.answer_events.Given as goal

abbrev pub invariant-loop : goal.invariant-loop
invariant-loop g l =
    Going l.initial.session l.session (g.R.Read.remaining l.initial.input) (g.R.Read.remaining l.input) (g.W.Write.contents l.initial.output) (g.W.Write.contents l.output)
