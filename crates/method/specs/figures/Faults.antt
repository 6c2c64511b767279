-- Figures of refusal 5 (METHOD 11.11): the place of the field that it names, and 0 where all fields are good; each range from both sides, and of
-- several faults the lowest place (DECISIONS A6).
use Rattle.std.specs.Prelude.{List, [], ◌∷◌, map, ◌≡◌, refl, ℕ, ℤ, pos, negsuc, Ok, Err}
use Rattle.method.specs.words.Types.{Contract, steps, millionths}
use Rattle.method.specs.words.Wire.{bit}
use Rattle.method.specs.words.Ranges.{contract_fields}
use Rattle.method.specs.told.Refusals.{field_place}
use Rattle.method.specs.computed.Types.{FieldsAnswer}
use Rattle.method.specs.computed.Opening.{field_good, first_bad, fields_answer}
use Rattle.method.specs.figures.Inputs.{Figure, figure}

-- the nine fields with a range, in their order
abbrev nine : ℤ → ℤ → ℤ → ℕ → ℕ → ℕ → ℕ → ℕ → ℕ → Contract
nine price spot least rate1 rate2 rate3 width days flags =
    record {
      price = steps price;
      spot = steps spot;
      least = steps least;
      rate1 = millionths rate1;
      rate2 = millionths rate2;
      rate3 = millionths rate3;
      width = millionths width;
      days = days;
      id = 7;
      flags = flags;
    }

-- ---- the sample contract with some of its fields changed
abbrev price : ℤ → ℕ → Contract
price p flags = nine p (pos 1_000) (pos 1) 100_000 200_000 300_000 500_000 90 flags

abbrev spot : ℤ → ℤ → Contract
spot s least = nine (pos 1_000) s least 100_000 200_000 300_000 500_000 90 2

abbrev rates : ℕ → ℕ → ℕ → Contract
rates one two three = nine (pos 1_000) (pos 1_000) (pos 1) one two three 500_000 90 2

abbrev last : ℕ → ℕ → ℕ → Contract
last width days flags = nine (pos 1_000) (pos 1_000) (pos 1) 100_000 200_000 300_000 width days flags

-- ---- the place that is named
abbrev place_in : FieldsAnswer → ℕ
place_in (Ok good) = 0
place_in (Err f) = field_place f

abbrev named : List ℕ → List Contract → Figure
named places cs = figure (map pos places) (map (λ (c : Contract). pos (place_in (fields_answer c))) cs)

abbrev pub faults : List Figure
faults =
    -- The settlement price: at least 1 where bit 0 of the flags is clear, and else down to -100,000,000.
    named (0 ∷ 1 ∷ 0 ∷ 1 ∷ []) (price (pos 100_000_000) 2 ∷ price (pos 100_000_001) 2 ∷ price (pos 1) 2 ∷ price (pos 0) 2 ∷ [])
    ∷ named (0 ∷ 0 ∷ 1 ∷ []) (price (pos 0) 3 ∷ price (negsuc 99_999_999) 3 ∷ price (negsuc 100_000_000) 3 ∷ [])
    -- The spot and the least price.
    ∷ named (0 ∷ 2 ∷ 0 ∷ 2 ∷ [])
    (spot (pos 100_000_000) (pos 1) ∷ spot (pos 100_000_001) (pos 1) ∷ spot (negsuc 99_999_999) (pos 1) ∷ spot (negsuc 100_000_000) (pos 1) ∷ [])
    ∷ named (0 ∷ 3 ∷ 0 ∷ 3 ∷ [])
    (spot (pos 1_000) (pos 1) ∷ spot (pos 1_000) (pos 0) ∷ spot (pos 1_000) (pos 100_000_000) ∷ spot (pos 1_000) (pos 100_000_001) ∷ [])
    -- The rates: each from 1 to 1,000,000, and none below the one before it.
    ∷ named (0 ∷ 4 ∷ 0 ∷ 4 ∷ [])
    (rates 1 1 1 ∷ rates 0 1 1 ∷ rates 1_000_000 1_000_000 1_000_000 ∷ rates 1_000_001 1_000_001 1_000_001 ∷ [])
    ∷ named (5 ∷ 5 ∷ 5 ∷ []) (rates 100_000 99_999 300_000 ∷ rates 100_000 1_000_001 300_000 ∷ rates 1 0 1 ∷ [])
    ∷ named (6 ∷ 6 ∷ []) (rates 100_000 200_000 199_999 ∷ rates 100_000 200_000 1_000_001 ∷ [])
    -- The width share, the days left and the flags.
    ∷ named (0 ∷ 0 ∷ 7 ∷ []) (last 0 90 2 ∷ last 1_000_000 90 2 ∷ last 1_000_001 90 2 ∷ [])
    ∷ named (0 ∷ 0 ∷ 8 ∷ []) (last 500_000 0 2 ∷ last 500_000 3_650 2 ∷ last 500_000 3_651 2 ∷ [])
    ∷ named (0 ∷ 0 ∷ 10 ∷ []) (last 500_000 90 0 ∷ last 500_000 90 3 ∷ last 500_000 90 4 ∷ [])
    -- A6. Several faults: the lowest place. Flags 4 leave bit 0 clear, so that a settlement price of -5 is at fault too.
    ∷ named (1 ∷ 4 ∷ 6 ∷ 5 ∷ [])
    (price (negsuc 4) 4 ∷ rates 2_000_000 500_000 600_000 ∷ rates 300_000 400_000 350_000 ∷ rates 5 2_000_000 3 ∷ [])
    ∷ named (2 ∷ 7 ∷ 8 ∷ []) (spot (pos 100_000_001) (pos 0) ∷ last 1_000_001 3_651 4 ∷ last 500_000 3_651 4 ∷ [])
    -- The places of all nine, in the order in which the fields are tested: the id has the ninth.
    ∷ figure (map pos (1 ∷ 2 ∷ 3 ∷ 4 ∷ 5 ∷ 6 ∷ 7 ∷ 8 ∷ 10 ∷ [])) (map (λ f. pos (field_place f)) contract_fields)
    ∷ []

-- Every figure is what the definitions give.
pub faults_claim : map (λ f. f.computed) faults ≡ map (λ f. f.printed) faults
unfolding bit field_good first_bad field_place
faults_claim = refl
