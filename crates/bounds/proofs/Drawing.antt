-- What the parts of an interest bound stay within, from what it asks, and that their product fits an `i64`. Assumes nothing.
use Prim.Native.Nat.{ℕ, ◌≤◌}
use lib.Dec.{lit<}
use lib.IntN.{ℤ, pos, ◌*ℤ◌}
use mir.Syntax.{w64}
use mir.Val.{SFits}
use Rattle.numbers.specs.Ranges.{Within}
use Rattle.numbers.proofs.Ranges.{fits, within_add, within_sub, within_mul, within_pos}
use Rattle.method.specs.words.Bounds.{market_bound, factor, outward, bound}
use Rattle.method.specs.computed.Rooms.{largest_factor, largest_market_bound, largest_bound}
use Rattle.method.proofs.Rooms.{factor_in, outward_within}
use Rattle.bounds.specs.Names.{Side, Up, Down, Factors, Market}
use Rattle.bounds.specs.Asks.{Drawn}

pub product_fits : {k : ℕ} {z : ℤ} → k ≤ largest_factor → Within largest_market_bound z → SFits w64 (z *ℤ pos k)
product_fits h w = fits (within_mul w (within_pos h)) (lit< tt)

-- ---- what a bound's parts are asked
module _ {f : Factors} {m : Market} (d : Drawn f m) where
  pub drawn-factor : (side : Side) (z : ℤ) → factor side f z ≤ largest_factor
  drawn-factor side z = factor_in side z d.factors

  pub drawn-bound : (side : Side) → Within largest_market_bound (market_bound side m.centre m.half1)
  drawn-bound Up = within_add d.centre d.half1
  drawn-bound Down = within_sub d.centre d.half1

  pub drawn_within : (side : Side) → Within largest_bound (bound side f m)
  unfolding bound outward
  drawn_within side = outward_within side d.factors (drawn-bound side)

-- what a bound's parts are asked
pub ruleset drawn = (drawn-factor, drawn-bound)
