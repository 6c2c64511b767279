-- What holds at the head of the series' loop, and after a turn; and what its end is short of a factor. Assumes nothing.
use mathlib.Core.Path.{◌≡◌, refl, ap, ap₂}
use Prim.Native.Nat.{ℕ, zero, suc, ◌+◌, ◌*◌, ◌/◌, ◌≤◌, ◌<◌}
use native.Mathlib.Nat.{not-suc-le-zero, div-le_of_le-mul, le_trans, mul-le-mul}
use native.Mathlib.Numerals.{add-one}
use native.Mathlib.Omega.{arith}
use Rattle.method.specs.words.Growth.{most_exponent, term, series, outer_part, up_factor}
use Rattle.method.specs.computed.Rooms.{largest_factor}
use Rattle.method.proofs.Growth.{up-between}

-- after the k-th term
pub record Summed (y a sum k : ℕ) : Type 0 where
  pub turn : k ≤ 12
  pub is-term : a ≡ term y k
  pub is-series : sum ≡ series y k
  pub small : a ≤ 1_000_000_000
  pub bounded : sum ≤ (k + 1) * 1_000_000_000

pub summed_start : (y : ℕ) → Summed y 1_000_000_000 1_000_000_000 0
unfolding term series
summed_start y = record { turn = omega arith; is-term = refl; is-series = refl; small = omega arith; bounded = omega arith }

module _ {y a sum k : ℕ} (r : Summed y a sum k) (more : k < 12) (cap : y ≤ most_exponent) where
  abbrev next : ℕ
  next = a * y / ((k + 1) * 1_000_000_000)

  next_small : next ≤ 1_000_000_000
  next_small = div-le_of_le-mul ((k + 1) * 1_000_000_000) (le_trans (mul-le-mul r.small cap) (omega arith))

  next-term : next ≡ term y (k + 1)
  unfolding term
  next-term = rw add-one (ap (λ (t : ℕ). t * y / (suc k * 1_000_000_000)) r.is-term)

  next-series : sum + next ≡ series y (k + 1)
  unfolding series
  next-series = rw add-one (ap₂ ◌+◌ r.is-series (rw add-one at next-term))

  pub summed_turn : Summed y next (sum + next) (k + 1)
  summed_turn =
      record { turn = omega arith; is-term = next-term; is-series = next-series; small = next_small; bounded = omega (arith, r.bounded, next_small) }

-- ---- the series by itself is no factor but at 0
outer_above : (y : ℕ) → 0 < y → outer_part y ≡ 20
unfolding outer_part
outer_above zero h = absurd (not-suc-le-zero h)
outer_above (suc y) h = refl

pub with_outer_part : {y sum : ℕ} → 0 < y → sum ≡ series y 12 → sum + 20 ≡ up_factor y
unfolding up_factor
with_outer_part {y} h e = omega (arith, e, outer_above y h)

pub series_small : (y : ℕ) → y ≤ most_exponent → series y 12 ≤ largest_factor
unfolding up_factor
series_small y h = omega (arith, up-between y h)

-- no factor is below 1 or too large, nor is the series
pub ruleset up_range = (up-between, series_small)

-- above 0 the series and the outer part are the factor
pub ruleset summed = (with_outer_part, series_small)
