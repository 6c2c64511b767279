-- The bounds that a limit goes with are in their range, before the shift and after it.
use Rattle.std.proofs.Common.{rules}
use Rattle.shifts.proofs.Moving.{reaches}
use Rattle.shifts.proofs.redrawn.Goals as goal

pub carried-requires : goal.carried-requires
carried-requires c = search (rules, reaches)

pub carried-requires-in-Down : goal.carried-requires-in-Down
carried-requires-in-Down c = search (rules, reaches)
