-- Each line's holds are in their range, and a line that is passed brings the second forward to its holds'.
use Rattle.std.proofs.Common.{arith}
use Rattle.corridor.specs.View.{view}
use Rattle.corridor.proofs.Views.{ranged, view-length}
use Rattle.corridor.proofs.Due.{row_passes}
use Rattle.feeding.proofs.Quiet.{until_turn, until_end}
use Rattle.feeding.proofs.quiet_until.Goals as goal

pub until-quiet-requires : goal.until-quiet-requires
until-quiet-requires c = row_passes _ (ranged c.requires) (omega (arith, view-length c.requires))

pub loop-line-preserved : goal.loop-line-preserved
loop-line-preserved c = until_turn _ _ _ _ _ (omega arith) c.until-quiet.ensures c.loop-line.invariant

pub returns : goal.returns
returns c = until_end c.args.s.now.hold (view c.args.s.now).lines c.loop-line.line-index c.loop-line.quiet (omega arith) c.loop-line.invariant
