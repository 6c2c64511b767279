-- What the screen says of the ids and the bytes is what the method says, so that a refusal is the method's, and an event that is taken may be
-- applied to the session that is served.
use Rattle.std.proofs.Common.{◌≡◌, refl, ◌∙◌, rules}
use Rattle.method.specs.words.Sessions.{refused}
use Rattle.method.specs.computed.Event.{read}
use Rattle.method.specs.computed.Search.{answer}
use Rattle.corridor.specs.View.{view}
use Rattle.corridor.specs.Reply.{shifts_told, left_of}
use Rattle.corridor.proofs.Saying.{Takes, session_says}
use Rattle.corridor.proofs.Events.{refused-is, applies, taken-told, event-taken}
use Rattle.corridor.proofs.Session.event.Goals as goal
use Rattle.corridor.proofs.Session.event.Goals.{In_err-taken, In_ok-taken}

refusal : (c : In_err-taken) → answer (view c.args.self.now) (read c.args.bytes.now) ≡ refused c.in_err-taken.field-0.0
refusal c =
    let s = c.args.self.now in
    refused-is s (read c.args.bytes.now) _ (session_says s (c.deref.ensures.0 ∙ c.ids-ids.ensures) c.read.ensures c.in_err-taken.ensures)

pub returns-in_err-taken-clause-answer : goal.returns-in_err-taken-clause-answer
unfolding shifts_told
returns-in_err-taken-clause-answer c = rw (refusal (goal.at.returns-in_err-taken-clause-answer c).In_err-taken) (search rules)

pub returns-in_err-taken-clause-left : goal.returns-in_err-taken-clause-left
unfolding left_of
returns-in_err-taken-clause-left c = rw (refusal (goal.at.returns-in_err-taken-clause-left c).In_err-taken) refl

takes : (c : In_ok-taken) → Takes (view c.args.self.now) (read c.args.bytes.now) c.in_ok-taken.taken
takes c = session_says c.args.self.now (c.deref.ensures.0 ∙ c.ids-ids.ensures) c.read.ensures c.in_ok-taken.ensures

pub applied-requires : goal.applied-requires
applied-requires c =
    applies c.args.self.now c.args.bytes.now c.in_ok-taken.taken _ _ c.requires (takes (goal.at.applied-requires c).In_ok-taken) c.served-shifts.ensures.left

pub returns-clause-answer : goal.returns-clause-answer
returns-clause-answer c = taken-told _ _ _ _ (takes (goal.at.returns-clause-answer c).In_ok-taken) c.served-shifts.ensures.told

pub returns-clause-left : goal.returns-clause-left
returns-clause-left c =
    event-taken _ _ _ _ (takes (goal.at.returns-clause-left c).In_ok-taken) c.served-shifts.ensures.left _ refl _ c.applied.ensures
