-- `host_head::distinct`: if the ids from `i` on are distinct, all are.
use Rattle.std.proofs.Common.{drop}
use Rattle.method.specs.computed.Sound.{Distinct}
use Rattle.host_head.proofs.distinct.Given as goal

abbrev pub invariant-loop-i : goal.invariant-loop-i
invariant-loop-i l = Distinct (drop l.i l.ids) → Distinct l.ids
