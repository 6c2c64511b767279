-- The flags and the first rate are ones that a contract may have, and so is the half-width that comes of that rate.
use Rattle.method.proofs.Opening.{half_width_in}
use Rattle.table_line.specs.Names.{Field}
use Rattle.table_line.proofs.terms.Goals as goal

pub rebuilt-requires : goal.rebuilt-requires
rebuilt-requires c = c.requires.0 Field.Flags

pub half_width-requires : goal.half_width-requires
half_width-requires c = (c.requires.0, c.requires.0 Field.Rate1)

pub half_move-requires : goal.half_move-requires
half_move-requires c = (c.requires.1.0, rw c.half_width.ensures (half_width_in c.args.c _ c.requires.0 (c.requires.0 Field.Rate1)))
