-- The rows of the shift lines so far stand in the buffer, and all else is as it was.
use Rattle.std.proofs.Common.{◌≡◌, take, map}
use Rattle.method.specs.declared.Row.TheVariants as Row
use Rattle.method.specs.told.Rows.{numbers_of}
use Rattle.rows.specs.Buffer.{written}
use Rattle.rows.proofs.write_shifts.Given as goal

abbrev pub invariant-loop-i : goal.invariant-loop-i
invariant-loop-i l = l.out ≡ written l.fn.out l.at (numbers_of (map Row.Shift (take l.i l.shifts)))
