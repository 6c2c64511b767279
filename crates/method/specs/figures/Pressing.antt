-- Figures of pressure: limits 950 and 1050, near share 50,000.
use Rattle.std.specs.Prelude.{true, false, ◌≡◌, refl, pos, Some}
use Rattle.method.specs.words.Types.{Up, Down, Limits, steps, millionths, seconds}
use Rattle.method.specs.words.Pressure.{close}
use Rattle.method.specs.computed.Judge.{judged}

-- The corridor is 100 wide, and near is less than 5: a bid of 1046 presses, one of 1045 does not.
abbrev figure : Limits
figure = record { upper = steps (pos 1_050); lower = steps (pos 950); frozen = false }

from_1046 : (close Up (millionths 50_000) figure (Some (steps (pos 1_046))) ≡ true) × (close Up (millionths 50_000) figure (Some (steps (pos 1_045))) ≡ false)
unfolding close
from_1046 = (refl, refl)

to_954 : (close Down (millionths 50_000) figure (Some (steps (pos 954))) ≡ true) × (close Down (millionths 50_000) figure (Some (steps (pos 955))) ≡ false)
unfolding close
to_954 = (refl, refl)

goes_on : judged (seconds 20) true (Some (seconds 10)) ≡ Some (seconds 10)
unfolding judged
goes_on = refl
