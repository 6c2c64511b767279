-- What one shift makes of a line (METHOD 16).
use Rattle.std.specs.Prelude.{true, false, List, [], ◌∷◌, ◌≡◌, ℕ, ◌+◌, ℤ, pos, ◌+ℤ◌, ◌-ℤ◌, ◌*ℤ◌, ◌≤ℤ◌, ◌<ℤ◌}
use Rattle.method.specs.words.Types.{Steps, Millionths, Side, Up, Down, Line, ShiftLine}
use Rattle.method.specs.words.Ranges.{permits_negative}
use Rattle.method.specs.words.Bounds.{bound}
use Rattle.method.specs.words.Pressure.{presses}
use Rattle.method.specs.words.Holds.{Life, remaining, hold_of}

-- ---- a relation between two lists, as of lines, one by one: none is left out, and none is added
unfoldable pub Each : {A B : Type 0} → (A → B → Type 0) → List A → List B → Type 0
Each R [] [] = Unit {0}
Each R [] (l ∷ ls) = ⊥
Each R (o ∷ os) [] = ⊥
Each R (o ∷ os) (l ∷ ls) = R o l × Each R os ls

-- ---- counting: 1 where two sides are one, and how many shift lines of a list are of a side
abbrev pub one_if_same : Side → Side → ℕ
one_if_same Up Up = 1
one_if_same Up Down = 0
one_if_same Down Up = 0
one_if_same Down Down = 1

unfoldable pub count : Side → List ShiftLine → ℕ
count side [] = 0
count side (c ∷ cs) = one_if_same side c.side + count side cs

-- ---- market: o is a line, l the same line after u upward and d downward shifts (METHOD 16.1, 16.2)
abbrev pub Centre : ℕ → ℕ → Line → Line → Type 0
Centre u d o l = l.market.centre.0 ≡ o.market.centre.0 +ℤ o.terms.halfmove.0 *ℤ pos u -ℤ o.terms.halfmove.0 *ℤ pos d

abbrev pub grown : ℕ → Line → Steps → ℤ
grown n o half = half.0 +ℤ o.terms.halfmove.0 *ℤ pos n

pub record HalfWidths (n : ℕ) (o l : Line) : Type 0 where
  pub half1 : l.market.half1.0 ≡ grown n o o.market.half1
  pub half2 : l.market.half2.0 ≡ grown n o o.market.half2
  pub half3 : l.market.half3.0 ≡ grown n o o.market.half3

-- ---- limits, over one shift from line l to line n
-- how far the upper interest bound rose, and the lower one fell
abbrev pub rise : Line → Line → ℤ
rise l n = bound Up n.terms.factors n.market -ℤ bound Up l.terms.factors l.market

abbrev pub fall : Line → Line → ℤ
fall l n = bound Down l.terms.factors l.market -ℤ bound Down n.terms.factors n.market

-- Up: the upper limit goes with its bound, and nothing else moves (METHOD 16.1).
pub record LimitsUp (l n : Line) : Type 0 where
  pub upper : n.limits.upper.0 ≡ l.limits.upper.0 +ℤ rise l n
  pub lower : n.limits.lower ≡ l.limits.lower
  pub frozen : n.limits.frozen ≡ l.limits.frozen

-- Down: the lower limit goes with its bound, unless it would go below the floor of one step (METHOD 16.2, 16.3).
pub data LowerBecomes (l n : Line) (result : ℤ) : Type 0 where
  the_result :
      (permits_negative l.terms.flags ≡ false → pos 1 ≤ℤ result) → n.limits.lower.0 ≡ result → n.limits.frozen ≡ l.limits.frozen
      → LowerBecomes l n result
  one_step :
      permits_negative l.terms.flags ≡ false → result <ℤ pos 1 → n.limits.lower.0 ≡ pos 1 → n.limits.frozen ≡ true
      → LowerBecomes l n result

pub record LimitsDown (l n : Line) : Type 0 where
  pub upper : n.limits.upper ≡ l.limits.upper
  pub lower : LowerBecomes l n (l.limits.lower.0 -ℤ fall l n)

abbrev pub LimitsMoved : Side → Line → Line → Type 0
LimitsMoved Up l n = LimitsUp l n
LimitsMoved Down l n = LimitsDown l n

-- ---- the whole line, over shift line c, after which `left` shifts are left
-- Both sides are judged at the shift's second, from what it leaves of their holds (METHOD 16.4, 16.5, 16.7).
pub record LineShifted (near : Millionths) (left : ℕ) (c : ShiftLine) (l n : Line) : Type 0 where
  pub terms : n.terms ≡ l.terms
  pub centre : Centre (one_if_same Up c.side) (one_if_same Down c.side) l n
  pub halfs : HalfWidths 1 l n
  pub limits : LimitsMoved c.side l n
  pub book : n.book ≡ l.book
  pub holds : (side : Side)
      → Life left c.second (presses side near n) (remaining c.side side (hold_of side l.holds)) (hold_of side n.holds)
