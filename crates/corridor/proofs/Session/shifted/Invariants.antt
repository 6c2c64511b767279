-- The rows before the one at hand are shifted, and the others stand as they did.
use Rattle.std.proofs.Common.{◌≡◌}
use Rattle.method.specs.computed.Shift.{shift_line}
use Rattle.corridor.proofs.Rows.{changed}
use Rattle.corridor.proofs.Session.shifted.Given as goal

abbrev pub invariant-loop-line : goal.invariant-loop-line
invariant-loop-line l = l.line-items ≡ changed (shift_line l.near l.left l.side l.now) l.line-index l.initial.line-items
