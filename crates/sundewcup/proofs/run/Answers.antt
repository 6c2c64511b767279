-- Without room nothing is done; a refused table has its one row; and of an opened one the events are answered, with room left for the closing
-- rows, which follow.
use Rattle.std.proofs.Common.{◌≤◌, length, sym, subst, ap, ◌∙◌, arith, Err, ◌≡◌, rules}
use Rattle.corridor.specs.View.{Valid}
use Rattle.closing.specs.Closing.{closing_numbers}
use Rattle.sundewcup.specs.Running.{run_needs}
use Rattle.sundewcup.proofs.Whole.{none-ran, none_into, refused-ran, refused_into, first-valid, last-valid, part_long, opened-ran, opened_into}
use Rattle.sundewcup.proofs.run.Goals as goal
use Rattle.sundewcup.proofs.run.Goals.{After-open}

-- ---- no room
pub returns-in_err-room-clause-value : goal.returns-in_err-room-clause-value
returns-in_err-room-clause-value c =
    let said : c.from_residual.result ≡ Err c.in_err-room.field-0.0 = search rules in
    said ∙ none-ran c.args.table.now c.args.events.now c.args.out.now (c.in_err-room.ensures.short.0 ∙ c.needed-needed.ensures)
    (omega (arith, c.in_err-room.ensures.short))

pub returns-in_err-room-clause-out_after : goal.returns-in_err-room-clause-out_after
returns-in_err-room-clause-out_after c =
    none_into c.args.table.now c.args.events.now c.args.out.now (c.in_err-room.ensures.short.0 ∙ c.needed-needed.ensures)
    (omega (arith, c.in_err-room.ensures.short))

enough : (c : After-open) → run_needs (length c.args.events.now) ≤ length c.args.out.now
enough c = omega (arith, c.needed-needed.ensures, c.in_ok-room.ensures.fits)

-- ---- a refused table
pub returns-in-Err-clause-value : goal.returns-in-Err-clause-value
returns-in-Err-clause-value c =
    refused-ran c.args.table.now c.args.events.now c.args.out.now (enough (goal.at.returns-in-Err-clause-value c).After-open) c.in-Err.refused
    (sym c.open.ensures ∙ c.in-Err.is)

pub returns-in-Err-clause-out_after : goal.returns-in-Err-clause-out_after
returns-in-Err-clause-out_after c =
    refused_into c.args.table.now c.args.events.now c.args.out.now (enough (goal.at.returns-in-Err-clause-out_after c).After-open) c.in-Err.refused
    (sym c.open.ensures ∙ c.in-Err.is) c.write.ensures

-- ---- the events are answered
pub counted-told-requires : goal.counted-told-requires
counted-told-requires c =
    let room = enough (goal.at.counted-told-requires c).After-open in
    (first-valid c.args.table.now c.args.events.now c.args.out.now room c.in-Ok.session (sym c.open.ensures ∙ c.in-Ok.is), omega (arith, room))

-- ---- the closing rows
pub closed-closing-requires : goal.closed-closing-requires
closed-closing-requires c =
    let room = enough (goal.at.closed-closing-requires c).After-open in
    let said = sym c.open.ensures ∙ c.in-Ok.is in
    let told = c.counted-told.ensures in (
      subst Valid (sym told.session_after) (last-valid c.args.table.now c.args.events.now c.args.out.now room c.in-Ok.session said),
      part_long c.args.table.now c.args.events.now c.args.out.now room c.in-Ok.session said c.counted-told.result told.value told.numbers_after,
    )

pub returns-in-Ok-clause-value : goal.returns-in-Ok-clause-value
returns-in-Ok-clause-value c =
    let told = c.counted-told.ensures in
    opened-ran c.args.table.now c.args.events.now c.args.out.now (enough (goal.at.returns-in-Ok-clause-value c).After-open) c.in-Ok.session
    (sym c.open.ensures ∙ c.in-Ok.is) c.counted-told.result told.value told.numbers_after _
    (c.closed-closing.ensures.value ∙ ap (λ s. length (closing_numbers s)) told.session_after)

pub returns-in-Ok-clause-out_after : goal.returns-in-Ok-clause-out_after
returns-in-Ok-clause-out_after c =
    let told = c.counted-told.ensures in
    opened_into c.args.table.now c.args.events.now c.args.out.now (enough (goal.at.returns-in-Ok-clause-out_after c).After-open) c.in-Ok.session
    (sym c.open.ensures ∙ c.in-Ok.is) c.counted-told.result told.value told.numbers_after
    (rw told.session_after at c.closed-closing.ensures.numbers_after)
