-- The holds that are due are served one in each turn, and each uses up one of the shifts that are left.
use Rattle.method.specs.computed.Head.{most_left}
use Rattle.corridor.specs.View.{view}
use Rattle.corridor.proofs.DueServed.{Going}
use Rattle.corridor.proofs.Session.served.Given as goal

abbrev pub invariant-loop-call : goal.invariant-loop-call
invariant-loop-call l = Going l.t l.fn.self l.self l.made.items

abbrev pub decreases-loop-call : goal.decreases-loop-call
decreases-loop-call l = most_left (view l.self)
