-- The closing rows of the lines so far stand in the buffer, and all else is as it was.
use Rattle.std.proofs.Common.{◌≡◌, take, map}
use Rattle.method.specs.told.Rows.{closing_row, numbers_of}
use Rattle.rows.specs.Buffer.{written}
use Rattle.closing.proofs.close.Given as goal

abbrev pub invariant-loop-i : goal.invariant-loop-i
invariant-loop-i l = l.out ≡ written l.fn.out 0 (numbers_of (map closing_row (take l.i l.lines)))
