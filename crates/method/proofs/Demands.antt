-- What a choice by a test tells: an answer that is no refusal met every demand on the way. Assumes nothing.
use mathlib.Core.Path.{◌≡◌, refl}
use mathlib.Core.Bool.{Bool, true, false, cond}
use Rattle.method.specs.told.Questions.{demand}

-- an answer that the refusal is not comes from a demand that was met
pub met_by : {A : Type 0} (t : Bool) {refusal onward answer : A} → (refusal ≡ answer → ⊥) → demand t refusal onward ≡ answer → (t ≡ true) × (onward ≡ answer)
met_by true n e = (refl, e)
met_by false n e = absurd (n e)

-- what holds of both outcomes, each where the test says so, holds of the choice
module _ {A : Type 0} (P : A → Type 0) where
  pub by_demand : (t : Bool) {refusal onward : A} → (t ≡ true → P onward) → (t ≡ false → P refusal) → P (demand t refusal onward)
  by_demand true f g = f refl
  by_demand false f g = g refl

  pub by_cond : (t : Bool) {x y : A} → (t ≡ true → P x) → (t ≡ false → P y) → P (cond t x y)
  by_cond true f g = f refl
  by_cond false f g = g refl
