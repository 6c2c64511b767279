-- One row more stands in the buffer.
use Rattle.std.proofs.Common.{arith}
use Rattle.method.specs.declared.Row.TheVariants as Row
use Rattle.rows.proofs.Buffer.{row_on}
use Rattle.rows.proofs.write_shifts.Goals as goal

pub loop-i-preserved : goal.loop-i-preserved
loop-i-preserved c =
    row_on Row.Shift c.args.out.now c.args.at c.args.shifts.now c.loop-i.i (omega arith) (omega arith) _ c.loop-i.invariant c.write.ensures
