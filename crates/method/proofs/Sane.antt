-- The ranges of a state: they hold at opening, and are kept by a shift and by an event. Assumes nothing.
use Rattle.std.specs.Prelude.{Ok, Err}
use mathlib.Core.Path.{◌≡◌}
use Prim.Native.Nat.{suc, ◌-◌, ◌≤◌, ◌<◌}
use native.Mathlib.Omega.{arith}
use Rattle.method.specs.words.Types.{Side, Seconds, State}
use Rattle.method.specs.words.Ranges.{longest_session}
use Rattle.method.specs.computed.Types.{ReadEvent, Tick, Quoted}
use Rattle.method.specs.computed.Head.{most_left}
use Rattle.method.specs.computed.Shift.{shift_line, shifted}
use Rattle.method.specs.computed.Event.{verdict, applied}
use Rattle.method.specs.computed.Rooms.{LineIn, OpeningIn, Room, Sane, EventIn}
use Rattle.method.proofs.Every.{every_map, every_weaker}
use Rattle.method.proofs.Every.{every_quoted}
use Rattle.method.proofs.Head.{most-shifted, most-applied}
use Rattle.method.proofs.Events.{on_time}
use Rattle.method.proofs.Rooms.{room_fewer, room-shifted, room-quoted, room-opened}

pub sane-opening : (s : State) → OpeningIn s → Sane s
sane-opening s o =
    record {
      hold = o.hold;
      end = o.end.most;
      clock = rw o.clock (omega arith);
      left = o.left;
      near = o.near;
      rooms = every_weaker LineIn (Room (most_left s)) (λ l. room-opened o.left) s.lines o.lines;
    }

pub sane-shifted : (side : Side) (now : Seconds) (s : State) → 0 < s.left → now.0 ≤ longest_session → Sane s → Sane (shifted side now s)
unfolding shifted
sane-shifted side now s h g v =
    record {
      hold = v.hold;
      end = v.end;
      clock = v.clock;
      left = omega (arith, v.left, fewer);
      near = v.near;
      rooms =
          every_map (Room (most_left s)) (Room (most_left (shifted side now s))) (shift_line s.near (s.left - 1) side now)
          (λ l r. room-shifted s.near (s.left - 1) side now (omega (arith, v.left, fewer)) g (room_fewer fewer r)) s.lines v.rooms;
    }
  where
    fewer : suc (most_left (shifted side now s)) ≤ most_left s
    fewer = omega (arith, most-shifted side now s h)

pub sane-applied : (e : ReadEvent) (s : State) → verdict s e ≡ Ok tt → EventIn e → Sane s → Sane (applied e s)
unfolding applied EventIn
sane-applied (Err why) s h i v = v
sane-applied (Ok (Tick t)) s h i v =
    let most = most-applied (Ok (Tick t)) s in
    record {
      hold = v.hold;
      end = v.end;
      clock = (on_time s (Ok (Tick t)) h).most;
      left = omega (arith, v.left, most);
      near = v.near;
      rooms = every_weaker _ _ (λ l. room_fewer most) s.lines v.rooms;
    }
sane-applied (Ok (Quoted q)) s h i v =
    let w = on_time s (Ok (Quoted q)) h in
    let most = most-applied (Ok (Quoted q)) s in
    record {
      hold = v.hold;
      end = v.end;
      clock = w.most;
      left = omega (arith, v.left, most);
      near = v.near;
      rooms =
          every_quoted s.near s.left q (Room (most_left (applied (Ok (Quoted q)) s)))
          (λ l. room-quoted s.near s.left q (omega (arith, w.most, v.end)) i.0 i.1) s.lines
          (every_weaker _ _ (λ l. room_fewer most) s.lines v.rooms);
    }
