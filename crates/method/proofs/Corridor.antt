-- The corridor at opening: the centre lies between the interest bounds, and between the limits. Assumes nothing.
use mathlib.Core.Path.{◌≡◌, refl}
use mathlib.Core.Bool.{true, false}
use Prim.Native.Nat.{ℕ, ◌*◌}
use lib.IntN.{ℤ, pos, negsuc, ◌+ℤ◌, ◌-ℤ◌, ◌*ℤ◌}
use lib.Signed.{◌≤ℤ◌}
use Rattle.numbers.specs.Ranges.{Span}
use Rattle.numbers.specs.Rounding.{floor}
use Rattle.numbers.proofs.Halves.{zarith, add_is, sub_is}
use Rattle.numbers.proofs.Linear.{≤ℤ_trans}
use Rattle.numbers.proofs.Rounding.{floor_mono}
use Rattle.numbers.proofs.Tests.{both, le-true}
use Rattle.method.specs.words.Types.{Up, Down, Millionths, Factors, Terms, Market, Limits, steps}
use Rattle.method.specs.words.Ranges.{whole, permits_negative}
use Rattle.method.specs.words.Bounds.{outward, bound}
use Rattle.method.specs.words.Opening.{corridor_half, corridor, floored}
use Rattle.method.specs.computed.Opening.{inside_bounds}
use Rattle.method.specs.computed.Rooms.{FactorsIn, LimitsIn}
use Rattle.method.proofs.Bounds.{outside_up, outside_down}
use Rattle.method.proofs.Floor.{Floored, free, met, floor_of, floored-upper, floored-floor}

-- ---- the centre lies between the interest bounds
module _ (f : Factors) (m : Market) (r : FactorsIn f) (h : pos 0 ≤ℤ m.half1.0) where
  abbrev c : ℤ
  c = m.centre.0

  centre_below_upper : c ≤ℤ bound Up f m
  unfolding bound outward
  centre_below_upper = ≤ℤ_trans (omega (zarith, add_is c m.half1.0)) (outside_up r (c +ℤ m.half1.0))

  centre_above_lower : bound Down f m ≤ℤ c
  unfolding bound outward
  centre_above_lower = ≤ℤ_trans (outside_down r (c -ℤ m.half1.0)) (omega (zarith, sub_is c m.half1.0))

-- ---- and between the limits
nonneg_half : (w : ℕ) (u l : ℤ) → l ≤ℤ u → pos 0 ≤ℤ floor (pos w *ℤ (u -ℤ l)) (2 * whole)
nonneg_half w u l h = floor_mono {a = pos 0} (2 * whole) (product (u -ℤ l) (omega (zarith, sub_is u l)))
  where
    product : (z : ℤ) → pos 0 ≤ℤ z → pos 0 ≤ℤ (pos w *ℤ z)
    product (pos n) h = omega zarith
    product (negsuc n) h = absurd h.le

-- limits p + half and p - half, floored, where the lower one was not below its bound b
module _ (p half b : ℤ) (flags : ℕ) (nonneg : pos 0 ≤ℤ half) (least : permits_negative flags ≡ false → pos 1 ≤ℤ p) where
  abbrev raw : Limits
  raw = record { upper = steps (p +ℤ half); lower = steps (p -ℤ half); frozen = false }

  floored-lower : {k : Limits} → Floored (permits_negative flags) raw k → b ≤ℤ (p -ℤ half) → Span b p k.lower.0
  floored-lower (free h) g = record { least = g; most = omega (zarith, sub_is p half) }
  floored-lower (met q h) g = record { least = omega zarith; most = least q }

-- the corridor of a line whose limits were inside their bounds
pub corridor_in : (width : Millionths) (t : Terms) (m : Market) → FactorsIn t.factors → pos 0 ≤ℤ m.half1.0
    → (permits_negative t.flags ≡ false → pos 1 ≤ℤ m.centre.0) → inside_bounds t.factors m (corridor width t.factors m) ≡ true
    → LimitsIn t m (floored (permits_negative t.flags) (corridor width t.factors m))
unfolding corridor inside_bounds
corridor_in width t m r h least inside =
    let f = t.factors in
    let c = m.centre.0 in
    let half = corridor_half width f m in
    let nonneg : pos 0 ≤ℤ half = unfold corridor_half in nonneg_half width.0 (bound Up f m) (bound Down f m) (≤ℤ_trans (centre_above_lower f m r h) (centre_below_upper f m r h)) in
    let i = both _ _ inside in
    let x = floor_of (permits_negative t.flags) (corridor width f m) in
    let s = floored-lower c half (bound Down f m) t.flags nonneg least x (le-true (bound Down f m) (c -ℤ half) i.1) in
    record {
      upper = rw (floored-upper x) (le-true (c +ℤ half) (bound Up f m) i.0);
      lower = s.least;
      over_centre = rw (floored-upper x) (omega (zarith, add_is c half));
      under_centre = s.most;
      floor = floored-floor t.flags refl x;
    }
