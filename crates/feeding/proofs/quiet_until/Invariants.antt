-- The lines from the one at hand on, with the second so far, give what all lines give.
use Rattle.feeding.proofs.Quiet.{Until}
use Rattle.feeding.proofs.quiet_until.Given as goal

abbrev pub invariant-loop-line : goal.invariant-loop-line
invariant-loop-line l = Until l.s.hold l.line-items l.line-index l.quiet
