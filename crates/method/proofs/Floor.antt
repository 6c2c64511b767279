-- The floor of one step: either it does not act, or it does. Assumes nothing.
use mathlib.Core.Path.{◌≡◌, refl, sym, ◌∙◌}
use mathlib.Core.Bool.{Bool, true, false, cond, true≢false}
use Prim.Native.Nat.{ℕ}
use lib.IntN.{pos}
use lib.Signed.{lt_z, le_z_yes, ◌≤ℤ◌, ◌<ℤ◌}
use Rattle.numbers.proofs.Tests.{lt-true, lt-false}
use Rattle.method.specs.words.Types.{Limits, steps}
use Rattle.method.specs.words.Ranges.{permits_negative}
use Rattle.method.specs.words.Opening.{floored}
use Rattle.method.specs.computed.Rooms.{Floor}

abbrev pub at_floor : Limits → Limits
at_floor k = record { upper = k.upper; lower = steps (pos 1); frozen = true }

pub data Floored (permitted : Bool) (k : Limits) : Limits → Type 0 where
  free : (permitted ≡ false → pos 1 ≤ℤ k.lower.0) → Floored permitted k k
  met : permitted ≡ false → k.lower.0 <ℤ pos 1 → Floored permitted k (at_floor k)

pub floor_of : (permitted : Bool) (k : Limits) → Floored permitted k (floored permitted k)
unfolding floored
floor_of true k = free (λ e. absurd (true≢false e))
floor_of false k = go (lt_z k.lower.0 (pos 1)) refl
  where
    go : (b : Bool) → lt_z k.lower.0 (pos 1) ≡ b → Floored false k (cond b (at_floor k) k)
    go true e = met refl (lt-true k.lower.0 (pos 1) e)
    go false e = free (λ h. lt-false k.lower.0 (pos 1) e)

pub floored-upper : {permitted : Bool} {k k' : Limits} → Floored permitted k k' → k'.upper ≡ k.upper
floored-upper (free h) = refl
floored-upper (met g h) = refl

-- limits that were not frozen yet satisfy the floor once it has acted
pub floored-floor : (flags : ℕ) {k k' : Limits} → k.frozen ≡ false → Floored (permits_negative flags) k k' → Floor k' flags
floored-floor flags e (free h) =
    record { least = h; frozen_at = λ y. absurd (true≢false (sym y ∙ e)); frozen_by = λ y. absurd (true≢false (sym y ∙ e)) }
floored-floor flags e (met g h) = record { least = λ y. le_z_yes tt; frozen_at = λ y. refl; frozen_by = λ y. g }
