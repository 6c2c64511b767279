-- The sum of the lower rate and the rounded part of the rise is between the two rates, so it is a rate itself.
use Rattle.std.proofs.Common.{rules}
use Rattle.growth.proofs.Between.{sum_fits, sum_cast, sum_result}
use Rattle.growth.proofs.between_keys.Goals as goal

pub overflow_add-result : goal.overflow_add-result
overflow_add-result c =
    sum_fits c.requires c.from.ensures c.from-2.ensures c.from-part.ensures c.from-whole.ensures c.from-3.ensures c.floor.ensures (search rules)

pub overflow_cast-result : goal.overflow_cast-result
overflow_cast-result c =
    sum_cast c.requires c.from.ensures c.from-2.ensures c.from-part.ensures c.from-whole.ensures c.from-3.ensures c.floor.ensures (search rules)

pub returns : goal.returns
returns c =
    sum_result c.requires c.from.ensures c.from-2.ensures c.from-part.ensures c.from-whole.ensures c.from-3.ensures c.floor.ensures (search rules)
