-- The limits that a shift redraws: they go with their interest bounds, stay between them and over the floor, and never go inward.
-- Assumes nothing.
use mathlib.Core.Path.{◌≡◌, refl}
use mathlib.Core.Bool.{true}
use Prim.Native.Nat.{ℕ}
use lib.IntN.{ℤ, pos, ◌+ℤ◌, ◌-ℤ◌}
use lib.Signed.{le_z_yes, ◌≤ℤ◌, ≤ℤ_refl}
use Rattle.numbers.specs.Ranges.{Span}
use Rattle.numbers.proofs.Halves.{zarith, add_is, sub_is}
use Rattle.numbers.proofs.Linear.{≤ℤ_trans}
use Rattle.method.specs.words.Types.{Side, Up, Down, Terms, Market, Limits, steps}
use Rattle.method.specs.words.Ranges.{permits_negative}
use Rattle.method.specs.words.Bounds.{bound}
use Rattle.method.specs.computed.Shift.{moved, redrawn}
use Rattle.method.specs.computed.Rooms.{Floor, LimitsRoom}
use Rattle.method.proofs.Bounds.{bound-kept, upper_rises, lower_falls}
use Rattle.method.proofs.Floor.{Floored, free, met, floor_of, floored-upper}

-- ---- the upper limit u, as its bound rises from b to b'
raised-under : (u b b' : ℤ) → u ≤ℤ b → (u +ℤ (b' -ℤ b)) ≤ℤ b'
raised-under u b b' h = omega (zarith, sub_is b' b, add_is u (b' -ℤ b))

raised-over : (w u b b' : ℤ) → w ≤ℤ u → b ≤ℤ b' → w ≤ℤ (u +ℤ (b' -ℤ b))
raised-over w u b b' h g = omega (zarith, sub_is b' b, add_is u (b' -ℤ b))

-- ---- the lower limit, as its bound falls from b to b'
abbrev pub lowered : ℤ → ℤ → Limits → Limits
lowered b b' k = record { upper = k.upper; lower = steps (k.lower.0 -ℤ (b -ℤ b')); frozen = k.frozen }

pub one-at_floor : (w b b' : ℤ) → b' ≤ℤ b → w ≡ pos 1 → pos 1 ≤ℤ (w -ℤ (b -ℤ b')) → w -ℤ (b -ℤ b') ≡ pos 1
one-at_floor w b b' fall e h = omega (zarith, sub_is b b', sub_is w (b -ℤ b'))

module _ (flags : ℕ) (b b' : ℤ) (fall : b' ≤ℤ b) (k : Limits) (f : Floor k flags) where
  lowered_floor : {k' : Limits} → Floored (permits_negative flags) (lowered b b' k) k' → Floor k' flags
  lowered_floor (free h) =
      record { least = h; frozen_at = λ e. one-at_floor k.lower.0 b b' fall (f.frozen_at e) (h (f.frozen_by e)); frozen_by = f.frozen_by }
  lowered_floor (met g h) = record { least = λ e. le_z_yes tt; frozen_at = λ e. refl; frozen_by = λ e. g }

  -- the lower limit never rises, and stays over its bound
  lowered_span : {k' : Limits} → Floored (permits_negative flags) (lowered b b' k) k' → b ≤ℤ k.lower.0 → Span b' k.lower.0 k'.lower.0
  lowered_span (free h) g =
      let w = k.lower.0 in
      record { least = omega (zarith, sub_is b b', sub_is w (b -ℤ b')); most = omega (zarith, sub_is b b', sub_is w (b -ℤ b')) }
  lowered_span (met q h) g =
      let w = k.lower.0 in
      record { least = omega (zarith, sub_is b b', sub_is w (b -ℤ b')); most = f.least q }

  lowered_frozen : {k' : Limits} → Floored (permits_negative flags) (lowered b b' k) k' → k.frozen ≡ true → k'.frozen ≡ true
  lowered_frozen (free h) e = e
  lowered_frozen (met g h) e = refl

-- ---- both limits, on either side
-- k' stands nowhere inside of k, and is frozen where k is
pub record Wider (k k' : Limits) : Type 0 where
  pub upper : k.upper.0 ≤ℤ k'.upper.0
  pub lower : k'.lower.0 ≤ℤ k.lower.0
  pub frozen : k.frozen ≡ true → k'.frozen ≡ true

pub limits-moved : (side : Side) (t : Terms) (m : Market) (k : Limits) → pos 0 ≤ℤ t.halfmove.0 → LimitsRoom t m k
    → LimitsRoom t (moved side t.halfmove m) (redrawn side t m (moved side t.halfmove m) k)
unfolding redrawn
limits-moved Up t m k p r =
    let b = bound Up t.factors m in
    let b' = bound Up t.factors (moved Up t.halfmove m) in
    record {
      upper = raised-under k.upper.0 b b' r.upper;
      lower = rw (bound-kept Up t.factors t.halfmove m) r.lower;
      ordered = raised-over k.lower.0 k.upper.0 b b' r.ordered (upper_rises t.factors t.halfmove m p);
      floor = record { least = r.floor.least; frozen_at = r.floor.frozen_at; frozen_by = r.floor.frozen_by };
    }
limits-moved Down t m k p r =
    let b = bound Down t.factors m in
    let b' = bound Down t.factors (moved Down t.halfmove m) in
    let fall = lower_falls t.factors t.halfmove m p in
    let f = floor_of (permits_negative t.flags) (lowered b b' k) in
    let s = lowered_span t.flags b b' fall k r.floor f r.lower in
    record {
      upper = rw (floored-upper f, bound-kept Down t.factors t.halfmove m) r.upper;
      lower = s.least;
      ordered = rw (floored-upper f) (≤ℤ_trans s.most r.ordered);
      floor = lowered_floor t.flags b b' fall k r.floor f;
    }

pub limits_wider : (side : Side) (t : Terms) (m : Market) (k : Limits) → pos 0 ≤ℤ t.halfmove.0 → LimitsRoom t m k
    → Wider k (redrawn side t m (moved side t.halfmove m) k)
unfolding redrawn
limits_wider Up t m k p r =
    let u = k.upper.0 in
    record {
      upper = raised-over u u (bound Up t.factors m) (bound Up t.factors (moved Up t.halfmove m)) (≤ℤ_refl u) (upper_rises t.factors t.halfmove m p);
      lower = ≤ℤ_refl k.lower.0;
      frozen = λ e. e;
    }
limits_wider Down t m k p r =
    let b = bound Down t.factors m in
    let b' = bound Down t.factors (moved Down t.halfmove m) in
    let fall = lower_falls t.factors t.halfmove m p in
    let f = floor_of (permits_negative t.flags) (lowered b b' k) in
    record {
      upper = rw (floored-upper f) (≤ℤ_refl k.upper.0);
      lower = (lowered_span t.flags b b' fall k r.floor f r.lower).most;
      frozen = lowered_frozen t.flags b b' fall k r.floor f;
    }
