-- What the screen says of the ids and the bytes is what the method says; where nothing is due, the session in the memory takes the event.
use Rattle.std.proofs.Common.{◌≡◌, [], refl, sym, ap, ◌∙◌, rules}
use Rattle.std.specs.Prelude.{Result, Ok, Err}
use Rattle.method.specs.words.Sessions.{refused}
use Rattle.method.specs.computed.Event.{read}
use Rattle.method.specs.computed.Search.{answer, served_by}
use Rattle.rows.specs.Buffer.{written}
use Rattle.corridor.specs.View.{view}
use Rattle.corridor.specs.Reply.{Shifts, served_as}
use Rattle.corridor.proofs.Saying.{Takes, session_says}
use Rattle.corridor.proofs.Events.{refused-is, applies, taken-told, event-taken}
use Rattle.feeding.proofs.Quiet.{idle}
use Rattle.host_memory.specs.Memory.{session_in}
use Rattle.host_session.specs.Names.{EventReason}
use Rattle.host_session.specs.Answers.{reply_in, made_in, shift_rows}
use Rattle.host_session.proofs.Replies.{refused-told, refused-stays, nothing-due}
use Rattle.host_session.proofs.event.Goals as goal
use Rattle.host_session.proofs.event.Goals.{In_err-taken, Else-le}

-- ---- refused
refusal : (c : In_err-taken) → answer (view (session_in c.args.session.now)) (read c.args.bytes.now) ≡ refused c.in_err-taken.field-0.0
refusal c = let s = session_in c.args.session.now in refused-is s (read c.args.bytes.now) _ (session_says s refl refl (sym c.in_err-taken.was ∙ c.looked-screened.ensures.taken))

told : (c : In_err-taken) → Err c.in_err-taken.field-0.0 ≡ reply_in c.args.session.now c.args.bytes.now
told c = refused-told (session_in c.args.session.now) c.args.bytes.now _ (refusal c)

pub returns-in_err-taken-clause-answer : goal.returns-in_err-taken-clause-answer
returns-in_err-taken-clause-answer c = rw (← told (goal.at.returns-in_err-taken-clause-answer c).In_err-taken) (search rules)

pub returns-in_err-taken-clause-out_after : goal.returns-in_err-taken-clause-out_after
returns-in_err-taken-clause-out_after c =
    ap (λ (r : Result Shifts EventReason). written c.args.out.now 0 (shift_rows r)) (told (goal.at.returns-in_err-taken-clause-out_after c).In_err-taken)

pub returns-in_err-taken-clause-session_after : goal.returns-in_err-taken-clause-session_after
returns-in_err-taken-clause-session_after c =
    refused-stays (session_in c.args.session.now) c.args.bytes.now _ (refusal (goal.at.returns-in_err-taken-clause-session_after c).In_err-taken)

-- ---- taken, with nothing due
takes : (c : Else-le) → Takes (view (session_in c.args.session.now)) (read c.args.bytes.now) c.in_ok-taken.taken
takes c = session_says (session_in c.args.session.now) refl refl (sym c.in_ok-taken.was ∙ c.looked-screened.ensures.taken)

due-none : (c : Else-le) → served_by c.in_ok-taken.taken.time (view (session_in c.args.session.now)) ≡ []
due-none c = nothing-due (session_in c.args.session.now) c.in_ok-taken.taken.time _ c.requires c.looked-screened.ensures.quiet (sym c.if-le.false ∙ c.le.ensures)

serves : (c : Else-le) → session_in c.args.session.now ≡ served_as (session_in c.args.session.now) (served_by c.in_ok-taken.taken.time (view (session_in c.args.session.now)))
serves c = idle (session_in c.args.session.now) c.in_ok-taken.taken.time c.requires (due-none c)

made-none : (c : Else-le) → Ok (record { items = [] }) ≡ reply_in c.args.session.now c.args.bytes.now
made-none c =
    taken-told (session_in c.args.session.now) (read c.args.bytes.now) c.in_ok-taken.taken (record { items = [] }) (takes c) (sym (due-none c))

pub applied-requires : goal.applied-requires
applied-requires c =
    let at = (goal.at.applied-requires c).Else-le in
    applies (session_in c.args.session.now) c.args.bytes.now c.in_ok-taken.taken _ _ c.requires (takes at) (serves at)

pub returns-clause-answer : goal.returns-clause-answer
returns-clause-answer c = ap made_in (made-none (goal.at.returns-clause-answer c).Else-le)

pub returns-clause-out_after : goal.returns-clause-out_after
returns-clause-out_after c =
    ap (λ (r : Result Shifts EventReason). written c.args.out.now 0 (shift_rows r)) (made-none (goal.at.returns-clause-out_after c).Else-le)

pub returns-clause-session_after : goal.returns-clause-session_after
returns-clause-session_after c =
    let at = (goal.at.returns-clause-session_after c).Else-le in
    event-taken (session_in c.args.session.now) (read c.args.bytes.now) c.in_ok-taken.taken _ (takes at) (serves at) _ refl _ c.applied.ensures
