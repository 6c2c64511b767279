-- When a line presses (METHOD 13).
use Rattle.std.specs.Prelude.{Bool, false, ◌&&◌, not, ℤ, pos, ◌-ℤ◌, ◌*ℤ◌, None, Some}
use Rattle.std.specs.Int.Signed.{lt_z}
use Rattle.method.specs.words.Types.{Millionths, Side, Up, Down, Limits, Price, Book, Line}
use Rattle.method.specs.words.Ranges.{whole, under_watch}

-- a distance from a limit that is less than the near share of the corridor's width (METHOD 13.4)
abbrev pub near_by : Millionths → Limits → ℤ → Bool
near_by near k distance = lt_z (distance *ℤ pos whole) (pos near.0 *ℤ (k.upper.0 -ℤ k.lower.0))

-- A bid presses on the upper limit, an ask on the lower one unless that is frozen. Beyond the limit the distance is negative, and so less.
-- (METHOD 13.2, 13.3, 13.5)
unfoldable pub close : Side → Millionths → Limits → Price → Bool
close side near k None = false
close Up near k (Some bid) = near_by near k (k.upper.0 -ℤ bid.0)
close Down near k (Some ask) = not k.frozen && near_by near k (ask.0 -ℤ k.lower.0)

-- the price that may press on a side
abbrev pub price : Side → Book → Price
price Up b = b.bid
price Down b = b.ask

-- a side is under pressure where it is watched and its price is close (METHOD 13.1)
abbrev pub under_pressure : Bool → Side → Millionths → Limits → Book → Bool
under_pressure watched side near k b = watched && close side near k (price side b)

-- of a line: a contract is watched on both sides, or on neither
unfoldable pub presses : Side → Millionths → Line → Bool
presses side near l = under_pressure (under_watch l.terms.flags) side near l.limits l.book
