-- What is told of a question that is refused. Assumes nothing.
use Rattle.std.specs.Prelude.{Err}
use mathlib.Core.Path.{◌≡◌, refl}
use mathlib.Core.List.{List}
use lib.IntN.{ℤ}
use Rattle.method.specs.declared.EventReason.{EventReason}
use Rattle.method.specs.told.Refusals.{limits_said, event_number}
use Rattle.host_questions.specs.AskedNumbers.{told_into}

-- no refusal has the number 0, so that nothing is written
pub told_into_refused : (out : List ℤ) (why : EventReason) → told_into out (limits_said (Err why)) ≡ out
unfolding limits_said event_number
told_into_refused out EventReason.AfterEnd = refl
told_into_refused out EventReason.BeforeClock = refl
told_into_refused out EventReason.Malformed = refl
told_into_refused out EventReason.UnknownId = refl
told_into_refused out EventReason.Crossed = refl
told_into_refused out EventReason.AbsentNotZero = refl
told_into_refused out EventReason.PriceOutOfRange = refl
