-- How far inside its interest bound a limit stands, and what the floor of one step does to that (METHOD 24.22 to 24.25).
use Rattle.std.specs.Prelude.{true, false, ◌≡◌, ℤ, pos, ◌+ℤ◌, ◌-ℤ◌, ◌≤ℤ◌, ◌<ℤ◌}
use Rattle.method.specs.words.Types.{Side, Up, Down, Line}
use Rattle.method.specs.words.Ranges.{permits_negative}
use Rattle.method.specs.words.Bounds.{bound}

-- how far inside its interest bound the limit of a side stands
abbrev pub margin : Side → Line → ℤ
margin Up l = bound Up l.terms.factors l.market -ℤ l.limits.upper.0
margin Down l = l.limits.lower.0 -ℤ bound Down l.terms.factors l.market

-- The floor of one step acts on a result below 1: at opening, or in a shift. The result of the shifts, with no floor, stands exactly as far
-- inside the lower interest bound as at opening; as that bound never rises, a result below 1 stays so.
pub data FloorMet (o l : Line) : Type 0 where
  at_opening : o.limits.frozen ≡ true → FloorMet o l
  in_a_shift : permits_negative l.terms.flags ≡ false → (bound Down l.terms.factors l.market +ℤ margin Down o) <ℤ pos 1 → FloorMet o l

-- The lower limit: the two cases exclude each other, and `frozen` tells which it is.
pub data Lower (o l : Line) : Type 0 where
  -- until it meets the floor, it stands exactly as far inside as at opening
  exactly :
      o.limits.frozen ≡ false → (permits_negative l.terms.flags ≡ false → pos 1 ≤ℤ l.limits.lower.0) → margin Down l ≡ margin Down o
      → l.limits.frozen ≡ false → Lower o l
  -- from then on it is 1 and frozen, and at least that far inside
  at_floor : FloorMet o l → l.limits.lower.0 ≡ pos 1 → margin Down o ≤ℤ margin Down l → l.limits.frozen ≡ true → Lower o l

-- ---- two moments of one line
pub record Outward (o l : Line) : Type 0 where
  pub upper : o.limits.upper.0 ≤ℤ l.limits.upper.0
  pub lower : l.limits.lower.0 ≤ℤ o.limits.lower.0
