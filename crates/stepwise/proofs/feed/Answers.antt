-- One event of the buffer goes to the session that the one before it left; what it tells has room, and the next turn goes on from there.
use Rattle.std.proofs.Common.{◌≡◌, ℕ, ◌*◌, ◌+◌, sym, ap, ◌∙◌, arith, refl, Err, rules}
use Rattle.std.proofs.Math.ListN.{length-map}
use Rattle.std.specs.Slice.Iter.{chunks_rest}
use Rattle.std.specs.Iterator.Adapters.{enumerate_source}
use Rattle.method.specs.words.Sessions.{accepted, refused}
use Rattle.method.specs.computed.Event.{read}
use Rattle.method.specs.computed.Search.{answer}
use Rattle.method.specs.declared.Row.TheVariants as Row
use Rattle.method.specs.told.Rows.{rows_of}
use Rattle.rows.specs.Buffer.{written}
use Rattle.rows.proofs.Buffer.{numbers-one}
use Rattle.corridor.specs.View.{view}
use Rattle.corridor.proofs.Theorems.{told-ok, told-err}
use Rattle.feeding.proofs.Feeding.{Piece, piece_of, ahead_turn, rows_fit, all_answer, all_session, all_into, nothing_answer, nothing_session, nothing_into}
use Rattle.stepwise.proofs.feed.Goals as goal
use Rattle.stepwise.proofs.feed.Goals.{In-Some, In-Ok, In-Err}

-- ---- no room
pub returns-in_err-room-clause-value : goal.returns-in_err-room-clause-value
returns-in_err-room-clause-value c =
    let said : c.from_residual.result ≡ Err c.in_err-room.field-0.0 = search rules in
    said ∙ nothing_answer c.args.session.now c.args.out.now c.args.events.now (c.in_err-room.ensures.short.0 ∙ c.needed-needed.ensures)
    (omega (arith, c.in_err-room.ensures.short))

pub returns-in_err-room-clause-left : goal.returns-in_err-room-clause-left
returns-in_err-room-clause-left c =
    nothing_session c.args.session.now c.args.out.now c.args.events.now (c.in_err-room.ensures.short.0 ∙ c.needed-needed.ensures)
    (omega (arith, c.in_err-room.ensures.short))

pub returns-in_err-room-clause-out_after : goal.returns-in_err-room-clause-out_after
returns-in_err-room-clause-out_after c =
    nothing_into c.args.session.now c.args.out.now c.args.events.now (c.in_err-room.ensures.short.0 ∙ c.needed-needed.ensures)
    (omega (arith, c.in_err-room.ensures.short))

-- ---- the event at hand
piece : (c : In-Some) → Piece (chunks_rest (enumerate_source c.loop-event.event-iterator)) c.in-Some.bytes.now (chunks_rest (enumerate_source c.next.new.self))
piece c = piece_of c.loop-event.invariant.twenty c.in-Some.ensures.steps.0.1

taken : (c : In-Ok) → answer (view c.loop-event.session) (read c.in-Some.bytes.now) ≡ accepted c.in-Ok.shifts.items
taken c = told-ok _ c.in-Ok.ensures.answer

pub write_shifts-at-requires : goal.write_shifts-at-requires
unfolding rows_of
write_shifts-at-requires c =
    let q = goal.at.write_shifts-at-requires c in
    let cs = c.in-Ok.shifts.items in
    let fit = rows_fit c.args.session.now c.args.events.now c.args.out.now c.loop-event.invariant.ahead (piece q.In-Some) (accepted cs) (taken q.In-Ok) in
    rw c.deref.ensures.0 (omega (arith, fit, length-map cs Row.Shift))

-- ---- the next turn
pub loop-event-preserved-in-Ok : goal.loop-event-preserved-in-Ok
unfolding rows_of
loop-event-preserved-in-Ok c =
    let q = goal.at.loop-event-preserved-in-Ok c in
    let at = c.loop-event in
    let s = c.in-Some.ensures.steps in
    let is = taken q.In-Ok in
    record {
      ahead =
          rw s.2
          (ahead_turn c.args.session.now c.args.events.now c.args.out.now at.invariant.ahead (piece q.In-Some) c.in-Ok.ensures.left
          (c.write_shifts-at.ensures.value
          ∙ rw (is, c.deref.ensures.0) (ap (λ (n : ℕ). at.at + 6 * n) (sym (length-map c.in-Ok.shifts.items Row.Shift))))
          (c.write_shifts-at.ensures.out_after ∙ rw (is, c.deref.ensures.0) refl));
      twenty = s.0.0 ∙ at.invariant.twenty;
    }

pub loop-event-preserved : goal.loop-event-preserved
unfolding rows_of
loop-event-preserved c =
    let q = goal.at.loop-event-preserved c in
    let at = c.loop-event in
    let s = c.in-Some.ensures.steps in
    let is : answer (view at.session) (read c.in-Some.bytes.now) ≡ refused c.in-Err.why = told-err _ c.in-Err.ensures.answer in
    let row = c.write.ensures ∙ ap (written at.out at.at) (sym (numbers-one (Row.RefusedEvent c.in-Err.why (c.in-Some.event + 1)))) in
    record {
      ahead =
          rw s.2
          (ahead_turn c.args.session.now c.args.events.now c.args.out.now at.invariant.ahead (piece q.In-Some) c.in-Err.ensures.left (rw is refl)
          (rw (is, ← s.1) row));
      twenty = s.0.0 ∙ at.invariant.twenty;
    }

-- ---- the end of the buffer
pub returns-clause-value : goal.returns-clause-value
returns-clause-value c =
    all_answer c.args.session.now c.args.events.now c.args.out.now c.loop-event.invariant.ahead c.in-None.ensures.steps.0.1.0
    (omega (arith, c.needed-needed.ensures, c.in_ok-room.ensures.fits))

pub returns-clause-left : goal.returns-clause-left
returns-clause-left c =
    all_session c.args.session.now c.args.events.now c.args.out.now c.loop-event.invariant.ahead c.in-None.ensures.steps.0.1.0
    (omega (arith, c.needed-needed.ensures, c.in_ok-room.ensures.fits))

pub returns-clause-out_after : goal.returns-clause-out_after
returns-clause-out_after c =
    all_into c.args.session.now c.args.events.now c.args.out.now c.loop-event.invariant.ahead c.in-None.ensures.steps.0.1.0
    (omega (arith, c.needed-needed.ensures, c.in_ok-room.ensures.fits))
