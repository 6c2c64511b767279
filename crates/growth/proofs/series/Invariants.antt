-- After k turns the sum is the series to its k-th power.
use Rattle.growth.proofs.Summed.{Summed}
use Rattle.growth.proofs.series.Given as goal

abbrev pub invariant-loop-k : goal.invariant-loop-k
invariant-loop-k l = Summed l.y.0 l.term l.sum l.k
