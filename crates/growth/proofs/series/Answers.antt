-- Each turn adds the next term, which is small enough.
use Rattle.std.proofs.Common.{arith}
use Rattle.growth.proofs.Summed.{summed_start, summed_turn}
use Rattle.growth.proofs.series.Goals as goal

pub loop-k-init : goal.loop-k-init
loop-k-init c = summed_start c.args.y.0

pub loop-k-preserved : goal.loop-k-preserved
loop-k-preserved c = summed_turn c.loop-k.invariant (omega arith) c.requires
