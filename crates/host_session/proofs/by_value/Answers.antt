-- A refusal leaves the session as it was.
use Rattle.corridor.proofs.Theorems.{told-err}
use Rattle.host_session.proofs.Replies.{refused-stays}
use Rattle.host_session.proofs.by_value.Goals as goal

pub returns-in_err-shifts-clause-session_after : goal.returns-in_err-shifts-clause-session_after
returns-in_err-shifts-clause-session_after c = refused-stays _ _ _ (told-err _ (rw c.taken-taken.ensures at c.in_err-shifts.ensures.answer))
