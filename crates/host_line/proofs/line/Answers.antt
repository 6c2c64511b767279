-- `host_line::line`: pressure may be judged on a line whose ranges were found right.
use Rattle.pressure.proofs.Pressing.{room_judgeable}
use Rattle.host_line.proofs.line.Goals as goal

pub exact-requires : goal.exact-requires
exact-requires c = room_judgeable c.if-room.ensures c.requires.1
