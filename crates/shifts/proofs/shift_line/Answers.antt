-- A line with room for a shift may be moved, and its pressure judged once it is.
use Rattle.shifts.proofs.Rooms.{shifts_shiftable, shifts_judgeable}
use Rattle.shifts.proofs.shift_line.Goals as goal

pub moved_line-requires : goal.moved_line-requires
moved_line-requires c = shifts_shiftable c.requires

pub judge_line-requires : goal.judge_line-requires
judge_line-requires c = rw c.moved_line.ensures (shifts_judgeable c.requires c.args.side)
