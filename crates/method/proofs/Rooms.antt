-- The ranges of one line: they hold at opening, and are kept by a shift, which uses one of those left, and by a quote. Assumes nothing.
use Rattle.std.specs.Prelude.{None, Some}
use mathlib.Core.Bool.{Bool, true, false}
use Prim.Native.Nat.{ℕ, suc, ◌≤◌, ◌<◌}
use native.Mathlib.Omega.{arith}
use lib.Dec.{lit<}
use lib.IntN.{ℤ, pos, negsuc, ◌+ℤ◌}
use lib.Signed.{le_z_yes}
use Rattle.numbers.specs.Ranges.{Within, Span}
use Rattle.numbers.proofs.Halves.{zarith, apart, add_is}
use Rattle.numbers.proofs.Linear.{≤ℤ_trans}
use Rattle.numbers.proofs.Ranges.{within_more, within_pos, within_add, within_sub, within_mul, floor_within, ceiling_within, within_squeeze}
use Rattle.method.specs.words.Types.{Side, Up, Down, Seconds, Millionths, Factors, Terms, Market, Limits, Book, Hold, Holds, Line, steps}
use Rattle.method.specs.words.Ranges.{longest_session, most_shifts}
use Rattle.method.specs.words.Bounds.{market_bound, factor, interest, outward, bound}
use Rattle.method.specs.computed.Types.{Watch, Quote}
use Rattle.method.specs.computed.Judge.{judged, to_hold, judge, watch_of, judge_line}
use Rattle.method.specs.computed.Shift.{toward, moved, ended, moved_line, shift_line}
use Rattle.method.specs.computed.Event.{quoted_line}
use Rattle.method.specs.computed.Rooms.{largest_half_move, reach, largest_factor, largest_market_bound, largest_bound, FactorsIn, LineIn, MarketRoom, PriceIn, HoldIn, HoldsIn, Room}
use Rattle.method.proofs.Redrawn.{limits-moved}

-- ---- interest bounds and limits within the largest bound
pub factor_in : (side : Side) {f : Factors} (z : ℤ) → FactorsIn f → factor side f z ≤ largest_factor
unfolding factor
factor_in Up (pos n) r = r.up.most
factor_in Up (negsuc n) r = omega (arith, r.down.most)
factor_in Down (pos n) r = omega (arith, r.down.most)
factor_in Down (negsuc n) r = r.up.most

pub span_within : {k : ℕ} {z : ℤ} → Span (pos 1) (pos k) z → Within k z
span_within {k} {z} r = record { above = omega (zarith, r.least, r.most, apart z); below = omega (zarith, r.least, apart z) }

pub market_bound_in : (side : Side) {left : ℕ} {m : Market} → MarketRoom left m → Within largest_market_bound (market_bound side m.centre m.half1)
market_bound_in Up r = within_more (within_add r.centre (span_within r.half1)) (omega arith)
market_bound_in Down r = within_more (within_sub r.centre (span_within r.half1)) (omega arith)

interest_within : (side : Side) (k : ℕ) {z : ℤ} → k ≤ largest_factor → Within largest_market_bound z → Within largest_bound (interest side k z)
unfolding interest
interest_within Up k h w = ceiling_within largest_bound 1_000_000_000 (lit< tt) (within_mul w (within_pos h))
interest_within Down k h w = floor_within largest_bound 1_000_000_000 (lit< tt) (within_mul w (within_pos h))

pub outward_within : (side : Side) {f : Factors} {z : ℤ} → FactorsIn f → Within largest_market_bound z → Within largest_bound (outward side f z)
unfolding outward
outward_within side {f} {z} r w = interest_within side (factor side f z) (factor_in side z r) w

pub bound_in : (side : Side) {left : ℕ} {f : Factors} {m : Market} → FactorsIn f → MarketRoom left m → Within largest_bound (bound side f m)
unfolding bound outward
bound_in side f r = outward_within side f (market_bound_in side r)

module _ {left : ℕ} {l : Line} (r : Room left l) where
  pub upper_in : Within largest_bound l.limits.upper.0
  upper_in =
      let k = r.limits in
      within_squeeze (bound Down l.terms.factors l.market) l.limits.upper.0 (bound Up l.terms.factors l.market) (≤ℤ_trans k.lower k.ordered) k.upper
      (bound_in Down r.terms.factors r.market) (bound_in Up r.terms.factors r.market)

  pub lower_in : Within largest_bound l.limits.lower.0
  lower_in =
      let k = r.limits in
      within_squeeze (bound Down l.terms.factors l.market) l.limits.lower.0 (bound Up l.terms.factors l.market) k.lower (≤ℤ_trans k.ordered k.upper)
      (bound_in Down r.terms.factors r.market) (bound_in Up r.terms.factors r.market)

-- ---- room for more shifts is room for fewer
span_fewer : {m n : ℕ} {h : ℤ} → m ≤ n → Span (pos 1) (pos (reach n)) h → Span (pos 1) (pos (reach m)) h
span_fewer few r = record { least = r.least; most = omega (zarith, r.most) }

pub room_fewer : {m n : ℕ} {l : Line} → m ≤ n → Room n l → Room m l
room_fewer few r =
    record {
      terms = r.terms;
      market =
          record {
            centre = within_more r.market.centre (omega arith);
            half1 = span_fewer few r.market.half1;
            half2 = span_fewer few r.market.half2;
            half3 = span_fewer few r.market.half3;
          };
      limits = r.limits;
      book = r.book;
      holds = r.holds;
    }

-- ---- a shift: the market
half_moved : (left : ℕ) (h by : ℤ) → left < most_shifts → Span (pos 1) (pos largest_half_move) by → Span (pos 1) (pos (reach (suc left))) h
    → Span (pos 1) (pos (reach left)) (h +ℤ by)
half_moved left h by few s r = record { least = omega (zarith, add_is h by, s.least, r.least); most = omega (zarith, add_is h by, s.most, r.most) }

centre-moved : (side : Side) (left : ℕ) (c by : ℤ) → left < most_shifts → Span (pos 1) (pos largest_half_move) by → Within (reach (suc left)) c
    → Within (reach left) (toward side (steps by) (steps c)).0
centre-moved Up left c by few s w = within_more (within_add w (span_within s)) (omega arith)
centre-moved Down left c by few s w = within_more (within_sub w (span_within s)) (omega arith)

market-moved : (side : Side) (left : ℕ) (t : Terms) (m : Market) → left < most_shifts → Span (pos 1) (pos largest_half_move) t.halfmove.0 → MarketRoom (suc left) m
    → MarketRoom left (moved side t.halfmove m)
unfolding moved
market-moved side left t m few s r =
    record {
      centre = centre-moved side left m.centre.0 t.halfmove.0 few s r.centre;
      half1 = half_moved left m.half1.0 t.halfmove.0 few s r.half1;
      half2 = half_moved left m.half2.0 t.halfmove.0 few s r.half2;
      half3 = half_moved left m.half3.0 t.halfmove.0 few s r.half3;
    }

-- ---- a shift: the holds
idle_in : HoldIn None
unfolding HoldIn
idle_in = tt

ended_in : (side : Side) {h : Holds} → HoldsIn h → HoldsIn (ended side h)
ended_in Up r = record { up = idle_in; down = r.down }
ended_in Down r = record { up = r.up; down = idle_in }

judged_in : (now : Seconds) (pressed : Bool) (h : Hold) → now.0 ≤ longest_session → HoldIn h → HoldIn (judged now pressed h)
unfolding judged HoldIn
judged_in now false h e i = tt
judged_in now true None e i = e
judged_in now true (Some start) e i = i

pub judge_in : (w : Watch) (near : Millionths) (left : ℕ) (now : Seconds) (k : Limits) (b : Book) (h : Holds) → now.0 ≤ longest_session → HoldsIn h
    → HoldsIn (judge w near left now k b h)
unfolding judge
judge_in w near left now k b h e i =
    record {
      up = judged_in now (to_hold Up w near left k b) h.up e i.up;
      down = judged_in now (to_hold Down w near left k b) h.down e i.down;
    }

room-judged : (near : Millionths) (left : ℕ) (now : Seconds) {n : ℕ} {l : Line} → now.0 ≤ longest_session → Room n l → Room n (judge_line near left now l)
unfolding judge_line
room-judged near left now {l = l} h r =
    record {
      terms = r.terms;
      market = r.market;
      limits = r.limits;
      book = r.book;
      holds = judge_in (watch_of l) near left now l.limits l.book l.holds h r.holds;
    }

-- ---- the whole line: shifted, quoted, opened
pub room_moved : (side : Side) {left : ℕ} {l : Line} → left < most_shifts → Room (suc left) l → Room left (moved_line side l)
unfolding moved_line
room_moved side {left} {l} few r =
    record {
      terms = r.terms;
      market = market-moved side left l.terms l.market few r.terms.halfmove r.market;
      limits = limits-moved side l.terms l.market l.limits (≤ℤ_trans (le_z_yes tt) r.terms.halfmove.least) r.limits;
      book = r.book;
      holds = ended_in side r.holds;
    }

-- the shifts that a line is judged by may be fewer than those that it has room for
pub room-shifted : (near : Millionths) (left : ℕ) (side : Side) (now : Seconds) {n : ℕ} {l : Line} → n < most_shifts → now.0 ≤ longest_session → Room (suc n) l
    → Room n (shift_line near left side now l)
unfolding shift_line
room-shifted near left side now few h r = room-judged near left now h (room_moved side few r)

pub room-quoted : (near : Millionths) (left : ℕ) (q : Quote) {n : ℕ} {l : Line} → q.time.0 ≤ longest_session → PriceIn q.bid → PriceIn q.ask → Room n l
    → Room n (quoted_line near left q l)
unfolding quoted_line
room-quoted near left q h bid ask r =
    room-judged near left q.time h
    (record { terms = r.terms; market = r.market; limits = r.limits; book = record { bid = bid; ask = ask }; holds = r.holds })

absent_in : PriceIn None
unfolding PriceIn
absent_in = tt

pub room-opened : {left : ℕ} {l : Line} → left ≤ most_shifts → LineIn l → Room left l
room-opened few o =
    room_fewer few
    (record {
      terms = o.terms;
      market = record { centre = o.market.centre; half1 = o.market.half1; half2 = o.market.half2; half3 = o.market.half3 };
      limits =
          record {
            upper = o.limits.upper;
            lower = o.limits.lower;
            ordered = ≤ℤ_trans o.limits.under_centre o.limits.over_centre;
            floor = o.limits.floor;
          };
      book = rw o.book (record { bid = absent_in; ask = absent_in });
      holds = rw o.holds (record { up = idle_in; down = idle_in });
    })
