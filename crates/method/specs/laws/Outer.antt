-- The growth factors beside thirteen terms of the exponential series in exact fractions: an up factor is never below their sum, a down factor never
-- above one over it, and so no interest bound is too narrow (METHOD 6.6, 8.6). All fractions are cleared by 12! x 10^99, so that only whole numbers
-- are compared. The name in brackets is the theorem: in proofs/ExactTerms, proofs/Outer and proofs/Covered.
use Rattle.std.specs.Prelude.{List, ◌≡◌, ℕ, zero, suc, ◌+◌, ◌-◌, ◌*◌, ◌/◌, ◌^◌, ◌≤◌, ℤ, pos, negsuc, ◌*ℤ◌, ◌≤ℤ◌}
use Rattle.method.specs.words.Types.{Side, Up, Down, Line, ShiftLine, State}
use Rattle.method.specs.words.Growth.{most_exponent, up_factor, down_factor, factors_of}
use Rattle.method.specs.words.Bounds.{market_bound, outward, bound}
use Rattle.method.specs.words.Opening.{exponent_of}
use Rattle.method.specs.words.Tables.{keys_of, contracts_of}
use Rattle.method.specs.words.Shifts.{Each}
use Rattle.method.specs.words.Rules.{Opens, Moment}

-- n x (n - 1) x .. x 1
unfoldable pub factorial : ℕ → ℕ
factorial zero = 1
factorial (suc n) = suc n * factorial n

-- a billionth and one, both times 12! x 10^99
unfoldable pub billionth : ℕ
billionth = factorial 12 * 10 ^ 99

abbrev pub one : ℕ
one = 1_000_000_000 * billionth

-- Term k, (y / 10^9)^k / k!, likewise times 10^9 x 12! x 10^99.
unfoldable pub exact_term : ℕ → ℕ → ℕ
exact_term y k = factorial 12 / factorial k * y ^ k * 10 ^ (108 - 9 * k)

-- Up to k = 12 the quotient there leaves no rest and the difference is none below zero, so that nothing was rounded. [exact_term-is]
abbrev pub ExactTermIs : Type 0
ExactTermIs = (y k : ℕ) → k ≤ 12 → exact_term y k * (factorial k * 10 ^ (9 * k)) ≡ y ^ k * (factorial 12 * 10 ^ 108)

-- the terms 0..k
unfoldable pub exact_sum : ℕ → ℕ → ℕ
exact_sum y zero = exact_term y zero
exact_sum y (suc k) = exact_sum y k + exact_term y (suc k)

-- all thirteen
abbrev pub exact : ℕ → ℕ
exact y = exact_sum y 12

-- ---- Both factors lie on the outer side of the exact ones, and not far. At 0 they are exact. [factors_on_outer_side]
pub record OnOuterSide (y : ℕ) : Type 0 where
  pub up_never_below : exact y ≤ up_factor y * billionth
  pub up_at_most_20_above : up_factor y * billionth ≤ exact y + 20 * billionth
  pub down_never_above : down_factor y * exact y ≤ 1_000_000_000 * one
  pub down_at_most_21_below : 1_000_000_000 * one ≤ (down_factor y + 21) * exact y
  pub exact_at_zero : y ≡ 0 → (up_factor y * billionth ≡ exact y) × (down_factor y * exact y ≡ 1_000_000_000 * one)

abbrev pub FactorsOnOuterSide : Type 0
FactorsOnOuterSide = (y : ℕ) → y ≤ most_exponent → OnOuterSide y

-- ---- Interest bounds: a market bound z times the exact sum, where it goes away from zero, and over it, where it goes toward zero, lies at the bound b
-- or further in.
unfoldable pub Covers : ℕ → Side → ℤ → ℤ → Type 0
Covers y Up (pos n) b = (pos n *ℤ pos (exact y)) ≤ℤ (b *ℤ pos one)
Covers y Up (negsuc n) b = (negsuc n *ℤ pos one) ≤ℤ (b *ℤ pos (exact y))
Covers y Down (pos n) b = (b *ℤ pos (exact y)) ≤ℤ (pos n *ℤ pos one)
Covers y Down (negsuc n) b = (b *ℤ pos one) ≤ℤ (negsuc n *ℤ pos (exact y))

-- So no interest bound that is drawn with our factors is too narrow. [never_too_narrow]
abbrev pub NeverTooNarrow : Type 0
NeverTooNarrow = (y : ℕ) → y ≤ most_exponent → (side : Side) (z : ℤ) → Covers y side z (outward side (factors_of y) z)

-- Nor is one of a line whose contract has the exponent y,
abbrev pub Covered : ℕ → Line → Type 0
Covered y l = (side : Side) → Covers y side (market_bound side l.market.centre l.market.half1) (bound side l.terms.factors l.market)

-- at any moment of a session from an accepted table, contract by contract of it. [bounds_covered]
abbrev pub BoundsCovered : Type 0
BoundsCovered =
    (o s : State) (cs : List ShiftLine) (opens : Opens o) → Moment o cs s
    → Each (λ c. Covered (exponent_of (keys_of opens.table) c)) (contracts_of opens.table) s.lines
