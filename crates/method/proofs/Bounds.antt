-- Laws of the interest bounds: they go with the market bound, across zero too; a shift moves only its own side's, and never inward. Assumes
-- nothing.
use mathlib.Core.Path.{◌≡◌, refl, ap, subst}
use Prim.Native.Nat.{ℕ, ◌≤◌}
use lib.Dec.{lit<}
use lib.IntN.{ℤ, pos, negsuc, ◌+ℤ◌, ◌-ℤ◌, ◌*ℤ◌}
use lib.Signed.{◌≤ℤ◌, ◌<ℤ◌}
use Rattle.numbers.specs.Rounding.{floor, ceiling}
use Rattle.numbers.proofs.Halves.{zarith, add_is, sub_is, mul_is}
use Rattle.numbers.proofs.Linear.{≤ℤ_trans, mul_mono, mul_grows, mul_sinks}
use Rattle.numbers.proofs.Rounding.{floor_mono, ceiling_mono, floor-exact, ceiling-exact}
use Rattle.method.specs.words.Types.{Side, Up, Down, Steps, Factors, Market}
use Rattle.method.specs.words.Bounds.{interest, factor, outward, bound}
use Rattle.method.specs.computed.Shift.{moved}
use Rattle.method.specs.computed.Rooms.{FactorsIn}

-- ---- Which factor is taken depends on the sign alone. So a market bound on P's side of zero takes the one that the sign of P would choose.
not-below : (n : ℕ) → pos n <ℤ pos 0 → ⊥
not-below n h = omega zarith

pub factor-below : (side : Side) (f : Factors) (y z : ℤ) → y <ℤ pos 0 → z <ℤ pos 0 → factor side f y ≡ factor side f z
unfolding factor
factor-below side f (pos m) z h g = absurd (not-below m h)
factor-below side f (negsuc m) (pos n) h g = absurd (not-below n g)
factor-below Up f (negsuc m) (negsuc n) h g = refl
factor-below Down f (negsuc m) (negsuc n) h g = refl

pub factor-above : (side : Side) (f : Factors) (y z : ℤ) → pos 0 ≤ℤ y → pos 0 ≤ℤ z → factor side f y ≡ factor side f z
unfolding factor
factor-above side f (negsuc m) z h g = absurd h.le
factor-above side f (pos m) (negsuc n) h g = absurd g.le
factor-above Up f (pos m) (pos n) h g = refl
factor-above Down f (pos m) (pos n) h g = refl

-- ---- with one factor k, and with a larger one
interest_mono : (side : Side) (k : ℕ) {y z : ℤ} → y ≤ℤ z → interest side k y ≤ℤ interest side k z
unfolding interest
interest_mono Up k h = ceiling_mono 1_000_000_000 (mul_mono k h)
interest_mono Down k h = floor_mono 1_000_000_000 (mul_mono k h)

interest_grows : (side : Side) {j k : ℕ} (n : ℕ) → j ≤ k → interest side j (pos n) ≤ℤ interest side k (pos n)
unfolding interest
interest_grows Up n h = ceiling_mono 1_000_000_000 (mul_grows (pos n) (omega zarith) h)
interest_grows Down n h = floor_mono 1_000_000_000 (mul_grows (pos n) (omega zarith) h)

interest_sinks : (side : Side) {j k : ℕ} (n : ℕ) → j ≤ k → interest side k (negsuc n) ≤ℤ interest side j (negsuc n)
unfolding interest
interest_sinks Up n h = ceiling_mono 1_000_000_000 (mul_sinks (negsuc n) (omega zarith) h)
interest_sinks Down n h = floor_mono 1_000_000_000 (mul_sinks (negsuc n) (omega zarith) h)

-- 0 stays 0, so that what lies on two sides of it stays so, with whatever factors
zero_times : (k : ℕ) → pos 0 *ℤ pos k ≡ pos 0
zero_times k = omega (zarith, mul_is (pos 0) k)

at_zero : (side : Side) (k : ℕ) → interest side k (pos 0) ≡ pos 0
unfolding interest
at_zero Up k = ap (λ (z : ℤ). ceiling z 1_000_000_000) (zero_times k)
at_zero Down k = ap (λ (z : ℤ). floor z 1_000_000_000) (zero_times k)

across_zero : (side : Side) (j k a b : ℕ) → interest side j (negsuc a) ≤ℤ interest side k (pos b)
across_zero side j k a b = ≤ℤ_trans low high
  where
    low : interest side j (negsuc a) ≤ℤ pos 0
    low = subst (λ (z : ℤ). interest side j (negsuc a) ≤ℤ z) (at_zero side j) (interest_mono side j (omega zarith))

    high : pos 0 ≤ℤ interest side k (pos b)
    high = subst (λ (z : ℤ). z ≤ℤ interest side k (pos b)) (at_zero side k) (interest_mono side k (omega zarith))

-- ---- an interest bound does not fall where its market bound does not, whatever their signs
pub outward_mono : (side : Side) (f : Factors) (a b : ℤ) → a ≤ℤ b → outward side f a ≤ℤ outward side f b
unfolding outward factor
outward_mono Up f (pos a) (pos b) h = interest_mono Up f.up.0 h
outward_mono Up f (negsuc a) (pos b) h = across_zero Up f.down.0 f.up.0 a b
outward_mono Up f (negsuc a) (negsuc b) h = interest_mono Up f.down.0 h
outward_mono Up f (pos a) (negsuc b) h = absurd h.le
outward_mono Down f (pos a) (pos b) h = interest_mono Down f.down.0 h
outward_mono Down f (negsuc a) (pos b) h = across_zero Down f.up.0 f.down.0 a b
outward_mono Down f (negsuc a) (negsuc b) h = interest_mono Down f.up.0 h
outward_mono Down f (pos a) (negsuc b) h = absurd h.le

-- ---- and does not lie inside of it, since the up factor is one or more and the down factor one or less
with_one : (side : Side) (z : ℤ) → interest side 1_000_000_000 z ≡ z
unfolding interest
with_one Up z = ceiling-exact z 1_000_000_000 (lit< tt)
with_one Down z = floor-exact z 1_000_000_000 (lit< tt)

module _ {f : Factors} (r : FactorsIn f) where
  pub outside_up : (z : ℤ) → z ≤ℤ outward Up f z
  unfolding outward factor
  outside_up (pos n) = rw (with_one Up (pos n)) at (interest_grows Up n r.up.least)
  outside_up (negsuc n) = rw (with_one Up (negsuc n)) at (interest_sinks Up n r.down.most)

  pub outside_down : (z : ℤ) → outward Down f z ≤ℤ z
  unfolding outward factor
  outside_down (pos n) = rw (with_one Down (pos n)) at (interest_grows Down n r.down.most)
  outside_down (negsuc n) = rw (with_one Down (negsuc n)) at (interest_sinks Down n r.up.least)

-- ---- a shift leaves the other side's interest bound exactly as it is: centre c, half-width h, half-move k
abbrev pub other : Side → Side
other Up = Down
other Down = Up

low-kept : (c h k : ℤ) → c +ℤ k -ℤ (h +ℤ k) ≡ c -ℤ h
low-kept c h k = omega (zarith, add_is c k, add_is h k, sub_is (c +ℤ k) (h +ℤ k), sub_is c h)

high-kept : (c h k : ℤ) → c -ℤ k +ℤ (h +ℤ k) ≡ c +ℤ h
high-kept c h k = omega (zarith, sub_is c k, add_is h k, add_is (c -ℤ k) (h +ℤ k), add_is c h)

pub bound-kept : (side : Side) (f : Factors) (by : Steps) (m : Market) → bound (other side) f (moved side by m) ≡ bound (other side) f m
unfolding bound outward moved
bound-kept Up f by m = ap (outward Down f) (low-kept m.centre.0 m.half1.0 by.0)
bound-kept Down f by m = ap (outward Up f) (high-kept m.centre.0 m.half1.0 by.0)

-- ---- and takes its own side's outward or leaves it
high_rises : (c h k : ℤ) → pos 0 ≤ℤ k → (c +ℤ h) ≤ℤ (c +ℤ k +ℤ (h +ℤ k))
high_rises c h k p = omega (zarith, add_is c k, add_is h k, add_is (c +ℤ k) (h +ℤ k), add_is c h)

low_falls : (c h k : ℤ) → pos 0 ≤ℤ k → (c -ℤ k -ℤ (h +ℤ k)) ≤ℤ (c -ℤ h)
low_falls c h k p = omega (zarith, sub_is c k, add_is h k, sub_is (c -ℤ k) (h +ℤ k), sub_is c h)

module _ (f : Factors) (by : Steps) (m : Market) (p : pos 0 ≤ℤ by.0) where
  pub upper_rises : bound Up f m ≤ℤ bound Up f (moved Up by m)
  unfolding bound outward moved
  upper_rises = outward_mono Up f _ _ (high_rises m.centre.0 m.half1.0 by.0 p)

  pub lower_falls : bound Down f (moved Down by m) ≤ℤ bound Down f m
  unfolding bound outward moved
  lower_falls = outward_mono Down f _ _ (low_falls m.centre.0 m.half1.0 by.0 p)
