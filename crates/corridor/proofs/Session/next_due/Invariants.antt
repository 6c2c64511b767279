-- The rows from the one at hand on, with the best so far, give what all rows give.
use Rattle.std.proofs.Common.{◌≡◌, drop, None}
use Rattle.method.specs.computed.Search.{earliest}
use Rattle.corridor.proofs.Session.next_due.Given as goal

abbrev pub invariant-loop-place : goal.invariant-loop-place
invariant-loop-place l = earliest l.self.hold l.place (drop l.place l.line-items) l.best ≡ earliest l.self.hold 0 l.line-items None
