-- A row that is not shifted yet stands as it did, with room for one shift; after the last row the session is the method's, shifted.
use Rattle.std.proofs.Common.{suc, ◌-◌, get_or, refl, arith}
use Rattle.method.specs.words.Types.{blank}
use Rattle.method.specs.computed.Rooms.{Room}
use Rattle.method.proofs.Rooms.{room_fewer}
use Rattle.method.proofs.Head.{left_within}
use Rattle.shifts.proofs.Rooms.{room-shifts}
use Rattle.corridor.specs.View.{view}
use Rattle.corridor.proofs.Views.{ranged_length}
use Rattle.corridor.proofs.Rows.{changed, changed_at, room_in}
use Rattle.corridor.proofs.Shifting.{change_turn, all_shifted}
use Rattle.corridor.proofs.Session.shifted.Goals as goal

pub loop-line-init : goal.loop-line-init
unfolding changed
loop-line-init c = refl

pub shift_line-requires : goal.shift_line-requires
shift_line-requires c =
    let v = c.requires.0 in
    let s = c.args.self.now in
    let i = c.loop-line.line-index in
    let most = left_within (view s) in
    let r : Room (suc (s.left - 1)) (get_or (view s).lines i blank) = room_fewer (omega arith) (room_in i v (omega (arith, ranged_length v))) in
    rw (c.loop-line.invariant, changed_at) (room-shifts s.near (omega (arith, v.sane.left)) v.sane.near.most r)

pub loop-line-preserved : goal.loop-line-preserved
loop-line-preserved c = change_turn _ _ _ _ _ c.loop-line.invariant (omega arith) c.shift_line.ensures

pub returns : goal.returns
returns c = all_shifted _ _ c.args.self.now c.requires.0 c.loop-line.line-index _ (omega arith) c.loop-line.invariant
