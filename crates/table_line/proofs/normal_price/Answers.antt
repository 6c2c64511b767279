-- The spot is a price that a contract may have, and so is the larger of its size and the least price.
use Rattle.std.proofs.Common.{◌≡◌, rules}
use Rattle.numbers.specs.Ranges.{Within}
use Rattle.method.specs.words.Ranges.{largest_price}
use Rattle.method.specs.words.Opening.{normal_price}
use Rattle.method.proofs.Opening.{normal_in}
use Rattle.table_line.specs.Names.{Field}
use Rattle.table_line.proofs.normal_price.Goals as goal

pub abs-requires : goal.abs-requires
abs-requires c = let w : Within largest_price c.args.c.spot.0 = c.requires Field.Spot in search rules

pub returns-clause-range : goal.returns-clause-range
unfolding normal_price
returns-clause-range c = let e : c.max.result.0 ≡ normal_price c.args.c = search rules in rw e (normal_in c.args.c c.requires)
