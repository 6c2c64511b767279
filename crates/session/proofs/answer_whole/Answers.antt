-- What follows the table is answered, and both together are the input.
use Rattle.session.proofs.Answering.{on_ok, answered-whole}
use Rattle.session.proofs.answer_whole.Goals as goal

pub returns : goal.returns
returns g c =
    on_ok c.answer_input.result (answered-whole c.in_ok-size.size c.table.new.room _ _ _ _ c.in_ok-size.ensures.table)
    c.answer_input.ensures
