-- One line more stands in the buffer.
use Rattle.std.proofs.Common.{List, [], ℤ, length, get_or, ◌/◌, ◌≤◌, ap, ◌∙◌, arith}
use Rattle.text.specs.Line.{lines_text}
use Rattle.text.proofs.Putting.{put-none, put_on, put_as}
use Rattle.text.proofs.Rows.{row_at, lines_on}
use Rattle.text.proofs.lines.Goals as goal

pub loop-row-init : goal.loop-row-init
unfolding lines_text
loop-row-init c = (omega arith, put-none c.args.buffer.now 0)

pub loop-row-preserved : goal.loop-row-preserved
loop-row-preserved c =
    let i = c.loop-row.row-index in
    let numbers = c.args.numbers.now in
    let row =
    ap (λ (rows : List (List ℤ)). get_or rows i []) c.as_chunks.ensures.front
    ∙ row_at (length numbers / 6) i numbers [] (omega (arith, c.as_chunks.ensures.front_len)) in
    let room : c.loop-row.at ≤ length c.args.buffer.now = omega (arith, c.as_chunks.ensures.front_len) in
    (omega arith, put_as (lines_on i numbers row) (put_on c.loop-row.invariant.1 room c.line-at.ensures.put))
