-- One event of the buffer: it comes off the pieces and is screened, and then refused with a row, or taken after the holds that were due by its
-- time.
use Rattle.std.proofs.Common.{◌≡◌, ◌<◌, ℕ, Some, None, false, set, subst, sym, ap, ◌∙◌, arith, Err, rules}
use Rattle.std.specs.Ordering.{is_le, nat_cmp}
use Rattle.std.specs.Slice.Iter.{chunks_rest}
use Rattle.std.specs.Iterator.Adapters.{enumerate_source}
use Rattle.std.proofs.lemmas.Bool.Decides.{nat_tests}
use Rattle.method.specs.computed.Event.{read}
use Rattle.due.specs.Quiet.{until}
use Rattle.feeding.specs.Names.{Line}
use Rattle.corridor.specs.declared.Session.{Session}
use Rattle.corridor.specs.View.{view, moved_on}
use Rattle.corridor.proofs.Views.{view-length}
use Rattle.corridor.proofs.Named.{named-below}
use Rattle.corridor.proofs.Saying.{Changes, Takes, session_says}
use Rattle.corridor.proofs.Events.{quote_asks, quote_in}
use Rattle.feeding.proofs.Quiet.{Quiet, quiet_first}
use Rattle.feeding.proofs.Feeding.{Piece, piece_of, all_answer, all_session, all_into, nothing_answer, nothing_session, nothing_into}
use Rattle.feeding.proofs.Turns.{Caught, caught_none, caught_served, shifts_fit, turn_refused, turn_holds, turn_taken}
use Rattle.feeding.proofs.feed.Goals as goal
use Rattle.feeding.proofs.feed.Goals.{In-Some, In-Ok, In-Some-change, Joined-le-2, then-le, else-le, then-le-2, else-le-2, in-Some-change, in_default}

-- ---- no room
pub returns-in_err-room-clause-value : goal.returns-in_err-room-clause-value
returns-in_err-room-clause-value c =
    let said : c.from_residual.result ≡ Err c.in_err-room.field-0.0 = search rules in
    said ∙ nothing_answer c.args.session.now c.args.out.now c.args.events.now (c.in_err-room.ensures.short.0 ∙ c.needed-needed.ensures)
    (omega (arith, c.in_err-room.ensures.short))

pub returns-in_err-room-clause-left : goal.returns-in_err-room-clause-left
returns-in_err-room-clause-left c =
    nothing_session c.args.session.now c.args.out.now c.args.events.now (c.in_err-room.ensures.short.0 ∙ c.needed-needed.ensures)
    (omega (arith, c.in_err-room.ensures.short))

pub returns-in_err-room-clause-out_after : goal.returns-in_err-room-clause-out_after
returns-in_err-room-clause-out_after c =
    nothing_into c.args.session.now c.args.out.now c.args.events.now (c.in_err-room.ensures.short.0 ∙ c.needed-needed.ensures)
    (omega (arith, c.in_err-room.ensures.short))

-- ---- the event at hand: its piece, and what the screen takes of it and of its quote
piece : (c : In-Some) → Piece (chunks_rest (enumerate_source c.loop-event.event-iterator)) c.in-Some.bytes.now (chunks_rest (enumerate_source c.next.new.self))
piece c = piece_of c.loop-event.invariant.twenty c.in-Some.ensures.steps.0.1

takes : (c : In-Ok) → Takes (view c.loop-event.session) (read c.in-Some.bytes.now) c.in-Ok.taken
takes c =
    session_says c.loop-event.session (c.deref-in-loop-event.ensures.0 ∙ c.loop-event.invariant.named) c.read-said.ensures c.in-Ok.ensures

changes : (c : In-Some-change) → Changes (view c.loop-event.session) (read c.in-Some.bytes.now) (Some c.in-Some-change.placed)
changes c =
    subst (Changes (view c.loop-event.session) (read c.in-Some.bytes.now)) c.in-Some-change.is (takes (goal.at-In-Some-change c).In-Ok).changes

below : (c : In-Some-change) → c.in-Some-change.placed.place < 32
below c =
    let v = c.loop-event.invariant.ahead.valid in
    let named = named-below c.in-Some-change.placed.quote.id (view c.loop-event.session).lines c.in-Some-change.placed.place (changes c).1 in
    omega (arith, named, view-length v, v.few)

-- ---- a refusal: its row is written
pub loop-event-preserved-in-Err : goal.loop-event-preserved-in-Err
loop-event-preserved-in-Err c =
    let at = c.loop-event in
    let s = c.in-Some.ensures.steps in
    rw (s.0.0, s.2)
    (turn_refused c.args.session.now c.args.events.now c.args.out.now _ at.invariant (piece (goal.at.loop-event-preserved-in-Err c).In-Some) c.in-Err.why
    (session_says at.session (c.deref-in-loop-event.ensures.0 ∙ at.invariant.named) c.read-said.ensures c.in-Err.ensures) (rw s.1 at c.write.ensures))

-- ---- the holds that are due are served, or none is
pub write_shifts-at-requires : goal.write_shifts-at-requires
write_shifts-at-requires c =
    let q = goal.at.write_shifts-at-requires c in
    rw (c.deref-then-le-2.ensures.0, c.served-shifts.ensures.told)
    (shifts_fit c.args.session.now c.args.events.now c.args.out.now _ c.loop-event.invariant (piece q.In-Some) c.in-Ok.taken (takes q.In-Ok))

over : (x y : ℕ) → false ≡ is_le (nat_cmp x y) → y < x
over x y h = grind (arith, nat_tests)

-- Before the quiet second nothing is due, also where it was found anew; and once the holds by then are served, it is to be found anew.
caught : (c : Joined-le-2) → Caught c.loop-event.session c.in-Ok.taken.time c.loop-event.at c.loop-event.out c.if-le-2.session c.if-le-2.quiet c.if-le-2.at c.if-le-2.out
caught c =
    let at = c.loop-event in
    let still : Quiet c.if-le.quiet (view at.session) =
    elim c.if-le.branch [
      | then-le w ↦ rw (w.quiet-is ∙ w.quiet_until-quiet.ensures) (quiet_first (view at.session))
      | else-le w ↦ rw w.quiet-is at.invariant.none-due
    ] in
    elim c.if-le-2.branch [
      | then-le-2 w ↦
          caught_served at.session _ at.at at.out w.deref-then-le-2.result.now (w.deref-then-le-2.ensures.0 ∙ w.served-shifts.ensures.told)
          (w.session-is ∙ w.served-shifts.ensures.left) (w.out-is ∙ w.write_shifts-at.ensures.out_after) w.quiet-is
          (w.at-is ∙ w.write_shifts-at.ensures.value)
      | else-le-2 w ↦
          caught_none at.session _ at.at at.out _ at.invariant.ahead.valid still (over _ _ (sym w.if-le-2.false ∙ c.le-in-Ok.ensures)) w.out-is w.session-is
          w.quiet-is w.at-is
    ]

-- ---- the line of a quote
pub offset_bounds-session-placed : goal.offset_bounds-session-placed
offset_bounds-session-placed c = omega (arith, below (goal.at.offset_bounds-session-placed c).In-Some-change)

pub bounds-session-placed : goal.bounds-session-placed
bounds-session-placed c = below (goal.at.bounds-session-placed c).In-Some-change

pub offset_bounds-session-placed-in-Some-change : goal.offset_bounds-session-placed-in-Some-change
offset_bounds-session-placed-in-Some-change c =
    omega (arith, below (goal.at.offset_bounds-session-placed-in-Some-change c).In-Some-change)

pub bounds-session-placed-in-Some-change : goal.bounds-session-placed-in-Some-change
bounds-session-placed-in-Some-change c = below (goal.at.bounds-session-placed-in-Some-change c).In-Some-change

pub quoted_line-line-requires : goal.quoted_line-line-requires
quoted_line-line-requires c =
    let q = (goal.at.quoted_line-line-requires c).In-Some-change in
    let o = changes q in
    quote_asks c.loop-event.session c.in-Ok.taken.time c.in-Some-change.placed.quote c.in-Some-change.placed.place _ c.loop-event.invariant.ahead.valid o.1
    (quote_in _ c.in-Some-change.placed.quote o.0) (caught (goal.at.quoted_line-line-requires c).Joined-le-2).served

pub until-quiet-requires : goal.until-quiet-requires
until-quiet-requires c =
    let q = goal.at.until-quiet-requires c in
    turn_holds c.args.session.now c.args.events.now c.args.out.now _ c.loop-event.invariant (piece q.In-Some) _ (takes q.In-Ok) (caught q.Joined-le-2)
    c.in-Some-change.placed c.in-Some-change.is _ c.quoted_line-line.ensures

-- ---- an event that is taken: the next turn

pub loop-event-preserved : goal.loop-event-preserved
loop-event-preserved c =
    let q = goal.at.loop-event-preserved c in
    let s = c.in-Some.ensures.steps in
    let x = c.if-le-2.session in
    let t = c.in-Ok.taken.time in
    let then =
    turn_taken c.args.session.now c.args.events.now c.args.out.now _ c.loop-event.invariant (piece q.In-Some) c.in-Ok.taken (takes q.In-Ok) (caught q.Joined-le-2) in
    rw (s.0.0, s.2)
    (elim c.match-taken.branch [
      | in-Some-change w ↦
          let line : Line → Session = λ l. moved_on x (set x.lines w.in-Some-change.placed.place l) t in
          then (Some w.in-Some-change.placed) w.in-Some-change.is _ (ap (λ (z : Session). moved_on z z.lines t) w.session-is ∙ ap line w.quoted_line-line.ensures) _
          (w.quiet-is ∙ w.until-quiet.ensures ∙ ap (λ (l : Line). until c.if-le-2.quiet x.hold l.holds) w.quoted_line-line.ensures)
      | in_default w ↦ then None w.in_default.is _ (ap (λ (z : Session). moved_on z z.lines t) w.session-is) _ w.quiet-is
    ])

-- ---- the end of the buffer
pub returns-clause-value : goal.returns-clause-value
returns-clause-value c =
    all_answer c.args.session.now c.args.events.now c.args.out.now c.loop-event.invariant.ahead c.in-None.ensures.steps.0.1.0
    (omega (arith, c.needed-needed.ensures, c.in_ok-room.ensures.fits))

pub returns-clause-left : goal.returns-clause-left
returns-clause-left c =
    all_session c.args.session.now c.args.events.now c.args.out.now c.loop-event.invariant.ahead c.in-None.ensures.steps.0.1.0
    (omega (arith, c.needed-needed.ensures, c.in_ok-room.ensures.fits))

pub returns-clause-out_after : goal.returns-clause-out_after
returns-clause-out_after c =
    all_into c.args.session.now c.args.events.now c.args.out.now c.loop-event.invariant.ahead c.in-None.ensures.steps.0.1.0
    (omega (arith, c.needed-needed.ensures, c.in_ok-room.ensures.fits))
