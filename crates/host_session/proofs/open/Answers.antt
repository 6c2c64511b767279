-- What `open` hands back is what the memory holds then: the session, or the one that is none.
use Rattle.std.proofs.Common.{sym, ◌∙◌}
use Rattle.corridor.proofs.Theorems.{opened-left, refused-left}
use Rattle.host_session.proofs.open.Goals as goal

pub returns-clause-session_after : goal.returns-clause-session_after
returns-clause-session_after c =
    let e = rw c.in_ok-opened.was at c.unwrap_or.ensures in
    c.kept.ensures ∙ e ∙ sym (opened-left c.args.table.now (sym c.in_ok-opened.was ∙ c.open-opened.ensures))

pub returns-in_err-opened-clause-session_after : goal.returns-in_err-opened-clause-session_after
returns-in_err-opened-clause-session_after c =
    let e = rw c.in_err-opened.was at c.unwrap_or.ensures in
    c.kept.ensures ∙ e ∙ c.none.ensures ∙ sym (refused-left c.args.table.now (sym c.in_err-opened.was ∙ c.open-opened.ensures))
