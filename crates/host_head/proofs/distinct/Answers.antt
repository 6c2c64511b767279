-- `host_head::distinct`: an id stands again after its place, or not.
use Rattle.std.proofs.Common.{arith}
use Rattle.host_head.proofs.Ids.{again, once, distinct_end}
use Rattle.host_head.proofs.distinct.Goals as goal

pub returns-then-contains : goal.returns-then-contains
returns-then-contains c = again c.args.ids.now c.loop-i.i c.loop-i-test.true c.if-contains.ensures.value

pub loop-i-preserved : goal.loop-i-preserved
loop-i-preserved c = λ d. c.loop-i.invariant (once c.args.ids.now c.loop-i.i c.loop-i-test.true c.if-contains.ensures.value d)

pub returns : goal.returns
returns c = c.loop-i.invariant (distinct_end c.args.ids.now c.loop-i.i (omega arith))
