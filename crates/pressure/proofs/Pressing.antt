-- What the steps of the near test come to fits an `i64`, from what they ask; and a line's room is all that its pressure asks. Assumes nothing.
use Rattle.std.specs.Prelude.{Some}
use mathlib.Core.Path.{◌≡◌, subst}
use Prim.Native.Nat.{ℕ, ◌≤◌, ◌<◌, ◌^◌}
use native.Mathlib.Omega.{arith}
use lib.Dec.{lit<, lit≤}
use lib.IntN.{ℤ, pos, ◌-ℤ◌, ◌*ℤ◌}
use mir.Syntax.{w64}
use mir.Val.{SFits}
use Rattle.numbers.specs.Ranges.{Within}
use Rattle.numbers.proofs.Ranges.{fits, within_more, within_sub, within_mul, within_pos, within_lit}
use Rattle.numbers.proofs.Machine.{cast_back}
use Rattle.method.specs.words.Ranges.{whole, largest_near_share}
use Rattle.method.specs.words.Pressure.{price}
use Rattle.method.specs.computed.Rooms.{largest_limit, PriceIn, BookIn, Room}
use Rattle.method.proofs.Rooms.{upper_in, lower_in}
use Rattle.pressure.specs.Names.{Side, Up, Down, Steps, Millionths, Limits, Price, Book, Line}
use Rattle.pressure.specs.Asks.{LimitsWithin, Apart, JudgeableLine}

module _ {near : ℕ} {k : Limits} {a b : ℤ} (q : Apart near k a b) where
  pub distance_fits : SFits w64 (a -ℤ b)
  distance_fits = fits (within_sub q.from q.to) (lit< tt)

  pub width_fits : SFits w64 (k.upper.0 -ℤ k.lower.0)
  width_fits = fits (within_sub q.limits.upper q.limits.lower) (lit< tt)

  pub distance_product : SFits w64 ((a -ℤ b) *ℤ pos whole)
  distance_product = fits (within_mul (within_sub q.from q.to) (within_lit whole)) (lit< tt)

  pub width_product : SFits w64 (pos near *ℤ (k.upper.0 -ℤ k.lower.0))
  width_product = fits (within_mul (within_pos q.share) (within_sub q.limits.upper q.limits.lower)) (lit< tt)

  pub share_fits : near < 2 ^ 63
  share_fits = omega (arith, q.share)

pub ruleset distances = (distance_fits, width_fits, distance_product, width_product, share_fits, cast_back)

-- ---- a price that is given
pub given_in : {x : Price} {p : Steps} → x ≡ Some p → PriceIn x → Within largest_limit p.0
unfolding PriceIn
given_in {x} {p} e h = within_more (subst PriceIn e h) (lit≤ tt)

pub price_in : (side : Side) {b : Book} → BookIn b → PriceIn (price side b)
price_in Up q = q.bid
price_in Down q = q.ask

-- ---- a line that has its room
module _ {n : ℕ} {l : Line} (r : Room n l) where
  pub room-limits : LimitsWithin l.limits
  room-limits = record { upper = within_more (upper_in r) (lit≤ tt); lower = within_more (lower_in r) (lit≤ tt) }

  pub room_judgeable : {near : Millionths} → near.0 ≤ largest_near_share → JudgeableLine near l
  room_judgeable h = record { share = h; limits = room-limits; book = r.book }
