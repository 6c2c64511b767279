-- The closing lines follow what the chunks were answered.
use Rattle.session.proofs.Going.{reached-valid}
use Rattle.session.proofs.Answering.{on_ok, closed}
use Rattle.session.proofs.chunks.answer_all.Goals as goal

pub close-requires : goal.close-requires
close-requires g c = reached-valid c.requires c.in_ok-answer_events.ensures.reached

pub returns : goal.returns
returns g c =
    on_ok c.close.result (λ said. closed c.args.first c.answer_events.new.session _ _ _ _ c.in_ok-answer_events.ensures.told said) c.close.ensures
