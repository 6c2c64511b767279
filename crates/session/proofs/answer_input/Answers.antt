-- A refused table's line is all that is said, and an opened table's session is a valid one.
use Rattle.std.proofs.Common.{sym, ◌∙◌}
use Rattle.corridor.proofs.Theorems.{valid-opened}
use Rattle.session.proofs.Answering.{on_ok, answered-opened, answered-refused}
use Rattle.session.proofs.answer_input.Goals as goal

pub answer_all-requires : goal.answer_all-requires
answer_all-requires g c = valid-opened _ (sym c.in-Ok.is ∙ c.open.ensures)

pub returns-in-Err : goal.returns-in-Err
returns-in-Err g c =
    on_ok c.print_refusal.result (answered-refused c.args.table.now c.open.ensures _ _ _ c.in-Err.refused c.in-Err.is) c.print_refusal.ensures

pub returns-in-Ok : goal.returns-in-Ok
returns-in-Ok g c =
    on_ok c.answer_all.result (answered-opened c.args.table.now c.open.ensures _ _ _ c.in-Ok.session c.in-Ok.is) c.answer_all.ensures
