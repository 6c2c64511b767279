-- The lines of the rows so far stand in the buffer, and each had its room.
use Rattle.std.proofs.Common.{◌*◌, ◌≤◌}
use Rattle.text.specs.Line.{lines_text, Put}
use Rattle.text.proofs.lines.Given as goal

abbrev pub invariant-loop-row : goal.invariant-loop-row
invariant-loop-row l = (l.at ≤ 110 * l.row-index) × Put l.fn.buffer 0 (lines_text l.row-index l.numbers) l.buffer l.at
