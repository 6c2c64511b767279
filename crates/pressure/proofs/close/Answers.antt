-- A price that is given is in its range, as both limits are: the near test may be asked.
use Rattle.std.proofs.Common.{rules}
use Rattle.pressure.proofs.Pressing.{given_in}
use Rattle.pressure.proofs.close.Goals as goal

pub near_by-requires : goal.near_by-requires
near_by-requires c = search (rules, given_in)

pub near_by-requires-then-not-k : goal.near_by-requires-then-not-k
near_by-requires-then-not-k c = search (rules, given_in)
