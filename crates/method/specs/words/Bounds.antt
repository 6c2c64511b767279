-- Market bounds and interest bounds of a line, at opening and after every shift (METHOD 7, 8). They are worked out from growth factors and
-- market, never stored.
use Rattle.std.specs.Prelude.{ℕ, ℤ, pos, negsuc, ◌+ℤ◌, ◌-ℤ◌, ◌*ℤ◌}
use Rattle.numbers.specs.Rounding.{floor, ceiling}
use Rattle.method.specs.words.Types.{Steps, Side, Up, Down, Factors, Market}

-- of a level, by its half-width (METHOD 7.4)
abbrev pub market_bound : Side → Steps → Steps → ℤ
market_bound Up centre half = centre.0 +ℤ half.0
market_bound Down centre half = centre.0 -ℤ half.0

-- The factor that takes a market bound outward, by the sign of that bound and of nothing else (METHOD 8.2, 8.3, 8.4).
unfoldable pub factor : Side → Factors → ℤ → ℕ
factor Up f (pos n) = f.up.0
factor Up f (negsuc n) = f.down.0
factor Down f (pos n) = f.down.0
factor Down f (negsuc n) = f.up.0

-- a bound z times the factor k, rounded outward (METHOD 8.5)
unfoldable pub interest : Side → ℕ → ℤ → ℤ
interest Up k z = ceiling (z *ℤ pos k) 1_000_000_000
interest Down k z = floor (z *ℤ pos k) 1_000_000_000

-- a market bound z taken outward
unfoldable pub outward : Side → Factors → ℤ → ℤ
outward side f z = interest side (factor side f z) z

-- out of the level 1 market bound of the side (METHOD 8.1)
unfoldable pub bound : Side → Factors → Market → ℤ
bound side f m = outward side f (market_bound side m.centre m.half1)
