-- Each step of the near test fits an `i64`, so that what the code computes is what the method says.
use Rattle.std.proofs.Common.{rules}
use Rattle.pressure.proofs.Pressing.{distances}
use Rattle.pressure.proofs.near_by.Goals as goal

pub overflow_mul-result-2 : goal.overflow_mul-result-2
overflow_mul-result-2 c = rw c.from-2.ensures (search (rules, distances))

pub returns : goal.returns
returns c = rw (c.from.ensures, c.from-2.ensures) (search (rules, distances))
