-- Each level's rate is one that a contract may have.
use Rattle.table_line.specs.Names.{Field}
use Rattle.table_line.proofs.market.Goals as goal

pub half_width-requires : goal.half_width-requires
half_width-requires c = (c.requires, c.requires Field.Rate1)

pub half_width-requires-2 : goal.half_width-requires-2
half_width-requires-2 c = (c.requires, (c.requires Field.Rate2).0)

pub half_width-requires-3 : goal.half_width-requires-3
half_width-requires-3 c = (c.requires, (c.requires Field.Rate3).0)
