-- Growth factors and interest bounds on the outer side of exact ones. Assumes nothing.
use mathlib.Core.Path.{◌≡◌, refl}
use Prim.Native.Nat.{ℕ, zero, suc, ◌+◌, ◌*◌, ◌/◌, ◌≤◌, ◌<◌}
use native.Mathlib.Decide.{dec_le}
use native.Mathlib.Nat.{le_refl, mul-le-mul, le_of_mul-le-mul_right, div-mul-le_self, lt-div-mul-add}
use native.Mathlib.Omega.{arith}
use lib.Dec.{lit≤, lit<}
use lib.IntN.{ℤ, pos, negsuc, ◌*ℤ◌}
use lib.Signed.{◌≤ℤ◌}
use Rattle.numbers.specs.Ranges.{over, under}
use Rattle.numbers.specs.Rounding.{floor, ceiling}
use Rattle.numbers.proofs.Halves.{zarith, mul_is}
use Rattle.numbers.proofs.Rounding.{floor-is, ceiling-is}
use Rattle.method.specs.words.Types.{Side, Up, Down}
use Rattle.method.specs.words.Growth.{most_exponent, term, series, outer_part, up_factor, down_factor, factors_of}
use Rattle.method.specs.words.Bounds.{factor, interest, outward}
use Rattle.method.specs.laws.Outer.{factorial, billionth, one, exact_term, exact_sum, exact, OnOuterSide, FactorsOnOuterSide, Covers, NeverTooNarrow}
use Rattle.method.proofs.Growth.{up-between}
use Rattle.method.proofs.ExactTerms.{exact-next, exact-first}

-- ---- the series beside the exact sum
-- A term rounded down, a, beside the exact one, t, in parts of which w make a unit of a: at most m thirds of a unit are missing.
record Near (m w a t : ℕ) : Type 0 where
  low : a * w ≤ t
  high : 3 * t ≤ (3 * a + m) * w

-- The next terms a' and t' are these by y over d, the one rounded down. Where m x y is at most d, the thirds that were missing become one at most,
-- and rounding takes three more at most.
near_next : {m w a t : ℕ} (a' t' y d : ℕ) → 0 < d → m * y ≤ d → a' * d ≤ a * y → a * y ≤ a' * d + d → t' * d ≡ t * y → Near m w a t → Near 4 w a' t'
near_next {w = w} a' t' y d positive small below above same n =
    record {
      low = le_of_mul-le-mul_right (omega (arith, mul-le-mul below (le_refl w), mul-le-mul n.low (le_refl y), same)) positive;
      high =
          le_of_mul-le-mul_right
          (omega (arith, mul-le-mul above (le_refl w), mul-le-mul small (le_refl w), mul-le-mul n.high (le_refl y), same))
          positive;
    }

-- How many thirds of a billionth a term is short at most: the first none, each later one four, as y is at most half of 10^9.
missing : ℕ → ℕ
missing zero = 0
missing (suc k) = 4

missing_small : (y k : ℕ) → y ≤ most_exponent → missing k * y ≤ suc k * 1_000_000_000
unfolding missing
missing_small y zero h = omega arith
missing_small y (suc k) h = omega arith

term-near : (y k : ℕ) → y ≤ most_exponent → k ≤ 12 → Near (missing k) billionth (term y k) (exact_term y k)
unfolding missing term
term-near y zero cap h = record { low = omega (arith, exact-first y); high = omega (arith, exact-first y) }
term-near y (suc k) cap h =
    let d : ℕ = suc k * 1_000_000_000 in
    let positive : 0 < d = omega arith in
    near_next (term y (suc k)) (exact_term y (suc k)) y d positive (missing_small y k cap) (div-mul-le_self (term y k * y) d)
    (omega (arith, lt-div-mul-add {a = term y k * y} {b = d} positive)) (exact-next y k h) (term-near y k cap (omega arith))

-- So all thirteen together are 48 thirds short at most, 16 billionths.
series-near : (y k : ℕ) → y ≤ most_exponent → k ≤ 12 → Near (4 * k) billionth (series y k) (exact_sum y k)
unfolding series exact_sum missing
series-near y zero cap h = term-near y zero cap h
series-near y (suc k) cap h =
    let s = series-near y k cap (omega arith) in
    let n = term-near y (suc k) cap h in
    record { low = omega (arith, s, n); high = omega (arith, s, n) }

-- ---- the up factor
at_zero : (exact 0 ≤ up_factor 0 * billionth) × (up_factor 0 * billionth ≤ exact 0 + 20 * billionth)
unfolding up_factor outer_part series term exact_sum exact_term billionth factorial
at_zero = (lit≤ tt, lit≤ tt)

up-outward : (y : ℕ) → y ≤ most_exponent → (exact y ≤ up_factor y * billionth) × (up_factor y * billionth ≤ exact y + 20 * billionth)
unfolding up_factor outer_part
up-outward zero cap = at_zero
up-outward (suc y) cap =
    let n = series-near (suc y) 12 cap (le_refl 12) in
    (omega (arith, n), omega (arith, n))

-- ---- the down factor d of an up factor u, beside one over the exact sum e, in parts of which b make a billionth
module _ (u b e : ℕ) (positive : 0 < u) where
  abbrev d : ℕ
  d = 1_000_000_000_000_000_000 / u

  below_one_over : e ≤ u * b → d * e ≤ 1_000_000_000 * (1_000_000_000 * b)
  below_one_over h = omega (arith, mul-le-mul (le_refl d) h, mul-le-mul (div-mul-le_self 1_000_000_000_000_000_000 u) (le_refl b))

  -- at most 20 for those of the up factor, since e is one at least, and 1 for the rounding
  near_one_over : u * b ≤ e + 20 * b → 1_000_000_000 * b ≤ e → 1_000_000_000 * (1_000_000_000 * b) ≤ (d + 21) * e
  near_one_over h least = go (dec_le 1_000_000_000 d)
    where
      go : Dec (1_000_000_000 ≤ d) → 1_000_000_000 * (1_000_000_000 * b) ≤ (d + 21) * e
      go (yes p) = omega (arith, mul-le-mul p least)
      go (no p) =
          let less : suc d ≤ 1_000_000_000 = omega arith in
          omega (arith, mul-le-mul (lt-div-mul-add {a = 1_000_000_000_000_000_000} {b = u} positive) (le_refl b), mul-le-mul (le_refl (suc d)) h, mul-le-mul less (le_refl b), least)

one_at_least : (y k : ℕ) → one ≤ exact_sum y k
unfolding exact_sum
one_at_least y zero = omega (arith, exact-first y)
one_at_least y (suc k) = omega (arith, one_at_least y k)

exact_one : {y : ℕ} → y ≡ 0 → (up_factor y * billionth ≡ exact y) × (down_factor y * exact y ≡ 1_000_000_000 * one)
unfolding down_factor up_factor outer_part series term exact_sum exact_term billionth factorial
exact_one e = rw e (refl, refl)

pub factors_on_outer_side : FactorsOnOuterSide
unfolding down_factor
factors_on_outer_side y cap =
    let up = up-outward y cap in
    let positive : 0 < up_factor y = omega (arith, (up-between y cap).least) in
    record {
      up_never_below = up.0;
      up_at_most_20_above = up.1;
      down_never_above = below_one_over (up_factor y) billionth (exact y) positive up.0;
      down_at_most_21_below = near_one_over (up_factor y) billionth (exact y) positive up.1 (one_at_least y 12);
      exact_at_zero = exact_one;
    }

-- ---- interest bounds
-- n is the size of a market bound, and p less q its interest bound or the negative of that, so that each law serves both sides.
module _ (y : ℕ) (f : OnOuterSide y) where
  away : (p q n : ℕ) → n * up_factor y + q * 1_000_000_000 ≤ p * 1_000_000_000 → n * exact y + q * one ≤ p * one
  away p q n h = omega (arith, mul-le-mul (le_refl n) f.up_never_below, mul-le-mul h (le_refl billionth))

  toward : (p q n : ℕ) → p * 1_000_000_000 ≤ q * 1_000_000_000 + n * down_factor y → p * exact y ≤ q * exact y + n * one
  toward p q n h = omega (arith, mul-le-mul (le_refl n) f.down_never_above, mul-le-mul h (le_refl (exact y)))

  up_away : (n : ℕ) (b : ℤ) → (pos n *ℤ pos (up_factor y)) ≤ℤ (b *ℤ pos 1_000_000_000) → (pos n *ℤ pos (exact y)) ≤ℤ (b *ℤ pos one)
  up_away n b h =
      omega (zarith, mul_is (pos n) (exact y), mul_is b one, away (over b) (under b) n (omega (zarith, h, mul_is (pos n) (up_factor y), mul_is b 1_000_000_000)))

  up-toward : (n : ℕ) (b : ℤ) → (negsuc n *ℤ pos (down_factor y)) ≤ℤ (b *ℤ pos 1_000_000_000) → (negsuc n *ℤ pos one) ≤ℤ (b *ℤ pos (exact y))
  up-toward n b h =
      omega (zarith, mul_is (negsuc n) one, mul_is b (exact y), toward (under b) (over b) (suc n) (omega (zarith, h, mul_is (negsuc n) (down_factor y), mul_is b 1_000_000_000)))

  down-toward : (n : ℕ) (b : ℤ) → (b *ℤ pos 1_000_000_000) ≤ℤ (pos n *ℤ pos (down_factor y)) → (b *ℤ pos (exact y)) ≤ℤ (pos n *ℤ pos one)
  down-toward n b h =
      omega (zarith, mul_is (pos n) one, mul_is b (exact y), toward (over b) (under b) n (omega (zarith, h, mul_is (pos n) (down_factor y), mul_is b 1_000_000_000)))

  down_away : (n : ℕ) (b : ℤ) → (b *ℤ pos 1_000_000_000) ≤ℤ (negsuc n *ℤ pos (up_factor y)) → (b *ℤ pos one) ≤ℤ (negsuc n *ℤ pos (exact y))
  down_away n b h =
      omega (zarith, mul_is (negsuc n) (exact y), mul_is b one, away (under b) (over b) (suc n) (omega (zarith, h, mul_is (negsuc n) (up_factor y), mul_is b 1_000_000_000)))

  covers : (side : Side) (z : ℤ) → Covers y side z (outward side (factors_of y) z)
  unfolding Covers outward interest factor factors_of
  covers Up (pos n) = let z = pos n *ℤ pos (up_factor y) in up_away n (ceiling z 1_000_000_000) (ceiling-is z 1_000_000_000 (lit< tt)).high
  covers Up (negsuc n) = let z = negsuc n *ℤ pos (down_factor y) in up-toward n (ceiling z 1_000_000_000) (ceiling-is z 1_000_000_000 (lit< tt)).high
  covers Down (pos n) = let z = pos n *ℤ pos (down_factor y) in down-toward n (floor z 1_000_000_000) (floor-is z 1_000_000_000 (lit< tt)).low
  covers Down (negsuc n) = let z = negsuc n *ℤ pos (up_factor y) in down_away n (floor z 1_000_000_000) (floor-is z 1_000_000_000 (lit< tt)).low

pub never_too_narrow : NeverTooNarrow
never_too_narrow y h = covers y (factors_on_outer_side y h)
