-- A line that may be moved has limits that may be redrawn for the market as it is moved.
use Rattle.shifts.proofs.Moving.{shiftable_redrawable}
use Rattle.shifts.proofs.moved_line.Goals as goal

pub redrawn-requires : goal.redrawn-requires
redrawn-requires c = rw c.moved-market.ensures (shiftable_redrawable c.requires c.args.side)
