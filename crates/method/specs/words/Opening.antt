-- The line that a contract opens: its market, its terms, its corridor (METHOD 5, 7, 9, 10).
use Rattle.std.specs.Prelude.{cond, Bool, true, false, List, ℕ, ◌*◌, ℤ, pos, ◌+ℤ◌, ◌-ℤ◌, ◌*ℤ◌, nat_abs}
use Rattle.std.specs.Int.Signed.{lt_z}
use Rattle.numbers.specs.Rounding.{floor, ceiling}
use Rattle.method.specs.words.Types.{Steps, Millionths, Key, Contract, Up, Down, Factors, Terms, Market, Limits, Line, steps, empty_book, no_holds}
use Rattle.method.specs.words.Ranges.{whole, permits_negative}
use Rattle.method.specs.words.Growth.{rate_at, exponent, factors_of}
use Rattle.method.specs.words.Bounds.{bound}

-- the size of the spot, or the least price where that is larger (METHOD 7.1)
unfoldable pub normal_price : Contract → ℤ
normal_price c = let size : ℤ = pos (nat_abs c.spot.0) in cond (lt_z size c.least.0) c.least.0 size

-- a level's share of the normal price, rounded up (METHOD 7.2)
unfoldable pub half_width : Contract → Millionths → Steps
half_width c rate = steps (ceiling (normal_price c *ℤ pos rate.0) whole)

-- the centre is P, and each level has its half-width (METHOD 7.2, 7.3)
unfoldable pub market_of : Contract → Market
market_of c =
    record { centre = c.price; half1 = half_width c c.rate1; half2 = half_width c c.rate2; half3 = half_width c c.rate3 }

-- half the shift share of the level 1 half-width, rounded down (METHOD 10.1)
unfoldable pub half_move : Millionths → Steps → Steps
half_move shift half1 = steps (floor (pos shift.0 *ℤ half1.0) (2 * whole))

-- what stays for the session, with exponent y
unfoldable pub terms_of : Millionths → ℕ → Contract → Terms
terms_of shift y c =
    record {
      id = c.id;
      flags = c.flags;
      halfmove = half_move shift (half_width c c.rate1);
      factors = factors_of y;
    }

-- the corridor before the floor: as far from P on both sides (METHOD 9.1, 9.2)
unfoldable pub corridor_half : Millionths → Factors → Market → ℤ
corridor_half width f m = floor (pos width.0 *ℤ (bound Up f m -ℤ bound Down f m)) (2 * whole)

unfoldable pub corridor : Millionths → Factors → Market → Limits
corridor width f m =
    record {
      upper = steps (m.centre.0 +ℤ corridor_half width f m);
      lower = steps (m.centre.0 -ℤ corridor_half width f m);
      frozen = false;
    }

-- the floor of one step, where negative prices are not permitted (METHOD 9.4)
unfoldable pub floored : Bool → Limits → Limits
floored true k = k
floored false k = cond (lt_z k.lower.0 (pos 1)) (record { upper = k.upper; lower = steps (pos 1); frozen = true }) k

-- with an empty book there is no pressure yet, and so no hold (METHOD 9.5)
unfoldable pub fresh_line : Terms → Market → Limits → Line
fresh_line t m k =
    record {
      terms = t;
      market = m;
      limits = floored (permits_negative t.flags) k;
      book = empty_book;
      holds = no_holds;
    }

-- a contract's exponent, by the table's keys (METHOD 5.1)
abbrev pub exponent_of : List Key → Contract → ℕ
exponent_of keys c = exponent (rate_at keys c.days) c.days
