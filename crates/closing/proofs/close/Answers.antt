-- A closing row is written next to those before it: its bounds can be drawn, and it fits.
use Rattle.std.proofs.Common.{◌≡◌, ℕ, ◌+◌, ◌*◌, ◌≤◌, length, get_or, sym, ap, subst, ◌∙◌, arith}
use Rattle.method.specs.words.Types.{blank}
use Rattle.method.specs.told.Rows.{closing_row, row_numbers}
use Rattle.method.specs.computed.Head.{most_left}
use Rattle.method.specs.computed.Rooms.{Room}
use Rattle.method.specs.declared.Row.{Row}
use Rattle.method.proofs.Every.{every_at}
use Rattle.rows.specs.Buffer.{written}
use Rattle.rows.specs.Fits.{Fits}
use Rattle.rows.proofs.Buffer.{row_on}
use Rattle.corridor.specs.View.{view}
use Rattle.line_answers.proofs.Rooms.{room-drawn}
use Rattle.closing.proofs.close.Goals as goal

pub closing_row-requires : goal.closing_row-requires
closing_row-requires c =
    let s = view c.args.s.now in
    room-drawn (every_at (Room (most_left s)) s.lines blank c.loop-i.i c.requires.sane.rooms c.loop-i-test.true)

pub write-requires : goal.write-requires
unfolding closing_row
write-requires c = (omega (arith, c.in_ok-room.ensures.fits), subst Fits (sym c.closing_row.ensures) tt)

pub loop-i-preserved : goal.loop-i-preserved
loop-i-preserved c =
    let at = c.loop-i in
    let lines = (view c.args.s.now).lines in
    let room : 0 + 6 * (at.i + 1) ≤ length c.args.out.now = omega (arith, c.in_ok-room.ensures.fits) in
    let here : 6 * at.i ≡ 0 + 6 * at.i = omega arith in
    let wrote = c.write.ensures ∙ ap (λ (r : Row). written at.out (6 * at.i) (row_numbers r)) c.closing_row.ensures
    ∙ ap (λ (k : ℕ). written at.out k (row_numbers (closing_row (get_or lines at.i blank)))) here in
    row_on closing_row c.args.out.now 0 lines at.i c.loop-i-test.true room _ at.invariant wrote
