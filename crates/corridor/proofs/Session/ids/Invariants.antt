-- The ids of the rows before the one at hand are gathered.
use Rattle.std.proofs.Common.{◌≡◌, take}
use Rattle.method.specs.computed.Opening.{ids}
use Rattle.corridor.proofs.Session.ids.Given as goal

abbrev pub invariant-loop-line : goal.invariant-loop-line
invariant-loop-line l = l.got.items ≡ ids (take l.line-index l.line-items)
