-- A row in use has room for what `passed` asks.
use Rattle.std.proofs.Common.{arith}
use Rattle.corridor.proofs.Views.{ranged_length}
use Rattle.corridor.proofs.Due.{row_passes}
use Rattle.corridor.proofs.Session.next_due.Goals as goal

pub passed-best-requires : goal.passed-best-requires
passed-best-requires c = row_passes _ c.requires (omega (arith, ranged_length c.requires))
