-- What is handed over is the next hold, so that one more line has its place and the session may be shifted; where nothing is, nothing is due
-- any more.
use Rattle.std.proofs.Common.{◌≡◌, ◌<◌, arith, sym, Some}
use Rattle.method.specs.computed.Shift.{shifted}
use Rattle.method.specs.computed.Search.{next_due}
use Rattle.method.proofs.Head.{most-shifted}
use Rattle.corridor.specs.View.{view}
use Rattle.corridor.proofs.Views.{view-put, ranged_length}
use Rattle.corridor.proofs.Due.{Next, next-is}
use Rattle.corridor.proofs.DueServed.{going_start, going_end, line-is, going_room, going_turn}
use Rattle.corridor.proofs.Session.served.Goals as goal
use Rattle.corridor.proofs.Session.served.Goals.{In-Some}

pub loop-call-init : goal.loop-call-init
loop-call-init c = rw c.new-made.ensures (going_start _ _ c.requires)

found : (c : In-Some) → next_due c.args.t (view c.loop-call.self) ≡ Some c.in-Some.call
found c = sym c.in-Some.ensures

told : (c : In-Some) → Next c.args.t (view c.loop-call.self) c.in-Some.call
told c = next-is _ _ _ (found c)

below : (c : In-Some) → c.in-Some.call.place < 32
below c = let g = c.loop-call.invariant in omega (arith, (told c).place, ranged_length g.ranged, g.ranged.few)

pub offset_bounds-self-call : goal.offset_bounds-self-call
offset_bounds-self-call c = omega (arith, below (goal.at.offset_bounds-self-call c).In-Some)

pub bounds-self-call : goal.bounds-self-call
bounds-self-call c = below (goal.at.bounds-self-call c).In-Some

pub push-requires : goal.push-requires
push-requires c = (omega arith, going_room c.loop-call.invariant (told (goal.at.push-requires c).In-Some))

pub shifted-requires : goal.shifted-requires
shifted-requires c = (c.loop-call.invariant.ranged, (told (goal.at.shifted-requires c).In-Some).left)

pub loop-call-smaller : goal.loop-call-smaller
loop-call-smaller c =
    let s = c.loop-call.self in
    let x = c.in-Some.call in
    rw (c.shifted.ensures, view-put s (shifted x.side x.second (view s)))
    (most-shifted x.side x.second (view s) (told (goal.at.loop-call-smaller c).In-Some).left)

pub loop-call-preserved : goal.loop-call-preserved
loop-call-preserved c =
    let at = (goal.at.loop-call-preserved c).In-Some in
    let g = c.loop-call.invariant in
    rw c.push.ensures.items (going_turn g _ _ _ (found at) (line-is g _ (told at)) c.shifted.ensures)

pub returns-clause-told : goal.returns-clause-told
returns-clause-told c = (going_end c.loop-call.invariant (sym c.in_default.ensures)).0

pub returns-clause-left : goal.returns-clause-left
returns-clause-left c = (going_end c.loop-call.invariant (sym c.in_default.ensures)).1
