-- What the functions of this crate ask, and their callers show.
use Rattle.std.specs.Prelude.{ℕ, suc, ◌≤◌, ◌<◌, ℤ}
use Rattle.numbers.specs.Ranges.{Within}
use Rattle.method.specs.words.Ranges.{most_shifts, largest_near_share}
use Rattle.method.specs.computed.Rooms.{largest_half_move, reach, largest_bound, largest_limit, FactorsIn, Room}
use Rattle.bounds.specs.Asks.{Drawn}
use Rattle.pressure.specs.Asks.{LimitsWithin}
use Rattle.shifts.specs.Names.{Terms, Market, Millionths, Limits, Line}

-- what a market asks that is moved
pub record Movable (by : ℤ) (m : Market) : Type 0 where
  pub small : Within largest_half_move by
  pub centre : Within (reach 1) m.centre.0
  pub half1 : Within (reach 1) m.half1.0
  pub half2 : Within (reach 1) m.half2.0
  pub half3 : Within (reach 1) m.half3.0

-- what a limit asks that goes with its bound from a to b
pub record Carried (z a b : ℤ) : Type 0 where
  pub limit : Within largest_limit z
  pub from : Within largest_bound a
  pub to : Within largest_bound b

-- what limits ask that are redrawn from market m to market n
pub record Redrawable (t : Terms) (m n : Market) (k : Limits) : Type 0 where
  pub from : Drawn t.factors m
  pub to : Drawn t.factors n
  pub limits : LimitsWithin k

-- what a line asks that is moved
pub record Shiftable (l : Line) : Type 0 where
  pub market : Movable l.terms.halfmove.0 l.market
  pub factors : FactorsIn l.terms.factors
  pub limits : LimitsWithin l.limits

-- What a shift asks that leaves `left`. It asks for the whole room: that limits stay in range is a matter of their bounds.
pub record Shifts (near : Millionths) (left : ℕ) (l : Line) : Type 0 where
  pub room : Room (suc left) l
  pub few : left < most_shifts
  pub share : near.0 ≤ largest_near_share
