-- From a line's room to what the functions on a line ask. Assumes nothing.
use Prim.Native.Nat.{ℕ, suc, ◌≤◌, ◌<◌}
use native.Mathlib.Omega.{arith}
use Rattle.numbers.proofs.Ranges.{within_more}
use Rattle.method.specs.words.Ranges.{longest_hold, most_shifts, largest_near_share}
use Rattle.method.specs.computed.Shift.{moved_line}
use Rattle.method.specs.computed.Event.{with_book}
use Rattle.method.specs.computed.Rooms.{PriceIn, HoldsIn, Room}
use Rattle.method.proofs.Rooms.{span_within, room_moved}
use Rattle.pressure.specs.Asks.{JudgeableLine}
use Rattle.pressure.proofs.Pressing.{room-limits, room_judgeable}
use Rattle.shifts.specs.Names.{Side, Millionths, Price, Line}
use Rattle.shifts.specs.Asks.{Shiftable, Shifts}

-- ---- what a shift asks, and what it asks of its parts
pub room-shifts : (near : Millionths) {left : ℕ} {l : Line} → left < most_shifts → near.0 ≤ largest_near_share → Room (suc left) l → Shifts near left l
room-shifts near few h r = record { room = r; few = few; share = h }

module _ {near : Millionths} {left : ℕ} {l : Line} (q : Shifts near left l) where
  pub shifts_shiftable : Shiftable l
  shifts_shiftable =
      let m = q.room.market in
      let few : left < most_shifts = q.few in
      record {
        market =
            record {
              small = span_within q.room.terms.halfmove;
              centre = within_more m.centre (omega arith);
              half1 = within_more (span_within m.half1) (omega arith);
              half2 = within_more (span_within m.half2) (omega arith);
              half3 = within_more (span_within m.half3) (omega arith);
            };
        factors = q.room.terms.factors;
        limits = room-limits q.room;
      }

  pub shifts_judgeable : (side : Side) → JudgeableLine near (moved_line side l)
  shifts_judgeable side = room_judgeable (room_moved side q.few q.room) q.share

-- ---- what a quote and the search ask
pub room_quotes : (near : Millionths) (bid ask : Price) {left : ℕ} {l : Line} → near.0 ≤ largest_near_share → PriceIn bid → PriceIn ask → Room left l
    → JudgeableLine near (with_book l bid ask)
room_quotes near bid ask h b a r = record { share = h; limits = room-limits r; book = record { bid = b; ask = a } }

pub room_passes : {wait : ℕ} {left : ℕ} {l : Line} → wait ≤ longest_hold → Room left l → HoldsIn l.holds × (wait ≤ longest_hold)
room_passes h r = (r.holds, h)
