-- The rate is that of the first key, of the last, or between two.
use Rattle.std.proofs.Common.{arith}
use Rattle.growth.proofs.Search.{at_first, at_last, neighbours, at-between}
use Rattle.growth.proofs.rate_at.Goals as goal

pub returns-in-0 : goal.returns-in-0
returns-in-0 c = at_first _ c.requires c.found_line.ensures.found c.in-0.is

pub returns-in_default : goal.returns-in_default
returns-in_default c = at_last _ c.requires c.found_line.ensures.found (omega arith) c.if-line-keys.true

pub between_keys-requires : goal.between_keys-requires
between_keys-requires c = neighbours _ c.requires c.found_line.ensures.found (omega arith) (omega arith)

pub returns-in_default-2 : goal.returns-in_default-2
returns-in_default-2 c = at-between _ c.requires c.found_line.ensures.found (omega arith) (omega arith) _ c.between_keys.ensures
