-- What a byte string has to be to be an event (METHOD 12), and which answer it has in a state (METHOD 20).
use Rattle.std.specs.Prelude.{true, false, List, ◌≡◌, ℕ, ◌≤◌, ◌<◌, pos, length, ◌<ℤ◌, Ok, Err}
use Rattle.numbers.specs.Ranges.{Within}
use Rattle.method.specs.words.Types.{EventReason, EventAnswer, State, session_ids}
use Rattle.method.specs.words.Wire.{word, signed, bit}
use Rattle.method.specs.words.Ranges.{largest_quote, Every}

-- ---- a byte string that is an event (METHOD 12)
pub record IsTick (b : List ℕ) : Type 0 where
  pub whole : length b ≡ 20
  pub flags : word b 8 ≡ 4
  pub id : word b 4 ≡ 0
  pub bid : signed (word b 12) ≡ pos 0
  pub ask : signed (word b 16) ≡ pos 0

-- a quote as far as its length and its flags go
pub record QuoteLike (b : List ℕ) : Type 0 where
  pub whole : length b ≡ 20
  pub flags : word b 8 < 4

-- a price whose flag does not say present is 0,
pub record AbsentZero (b : List ℕ) : Type 0 where
  pub bid : bit 0 (word b 8) ≡ false → signed (word b 12) ≡ pos 0
  pub ask : bit 1 (word b 8) ≡ false → signed (word b 16) ≡ pos 0

-- and one that is present lies in its range
pub record PricesIn (b : List ℕ) : Type 0 where
  pub bid : bit 0 (word b 8) ≡ true → Within largest_quote (signed (word b 12))
  pub ask : bit 1 (word b 8) ≡ true → Within largest_quote (signed (word b 16))

pub record IsQuote (b : List ℕ) : Type 0 where
  pub like : QuoteLike b
  pub absent : AbsentZero b
  pub prices : PricesIn b

pub data IsEvent (b : List ℕ) : Type 0 where
  tick : IsTick b → IsEvent b
  quote : IsQuote b → IsEvent b

pub record InSession (s : State) (b : List ℕ) : Type 0 where
  pub to_end : word b 0 ≤ s.end.0
  pub from_clock : s.clock.0 ≤ word b 0

-- the id is none of the session's
abbrev pub Unknown : State → List ℕ → Type 0
Unknown s b = Every (λ id. id ≡ word b 4 → ⊥) (session_ids s)

-- both prices are present, and the bid is above the ask
pub record IsCrossed (b : List ℕ) : Type 0 where
  pub bid : bit 0 (word b 8) ≡ true
  pub ask : bit 1 (word b 8) ≡ true
  pub above : (signed (word b 16)) <ℤ (signed (word b 12))

-- ---- the answer to an event in state s: one clause for each way, and together they leave exactly one answer (METHOD 20)
pub data EventAnswered (s : State) (b : List ℕ) : EventAnswer → Type 0 where
  -- refusal 12
  malformed : (IsTick b → ⊥) → (QuoteLike b → ⊥) → EventAnswered s b (Err EventReason.Malformed)
  -- 15
  absent_not_zero : QuoteLike b → (AbsentZero b → ⊥) → EventAnswered s b (Err EventReason.AbsentNotZero)
  -- 16
  price_out_of_range : QuoteLike b → AbsentZero b → (PricesIn b → ⊥) → EventAnswered s b (Err EventReason.PriceOutOfRange)
  -- 10
  after_end : IsEvent b → s.end.0 < word b 0 → EventAnswered s b (Err EventReason.AfterEnd)
  -- 11
  before_clock :
      IsEvent b → word b 0 ≤ s.end.0 → word b 0 < s.clock.0 → EventAnswered s b (Err EventReason.BeforeClock)
  -- 13
  unknown_id : IsQuote b → InSession s b → Unknown s b → EventAnswered s b (Err EventReason.UnknownId)
  -- 14
  crossed :
      IsQuote b → InSession s b → (Unknown s b → ⊥) → IsCrossed b → EventAnswered s b (Err EventReason.Crossed)
  tick_taken : IsTick b → InSession s b → EventAnswered s b (Ok tt)
  quote_taken : IsQuote b → InSession s b → (Unknown s b → ⊥) → (IsCrossed b → ⊥) → EventAnswered s b (Ok tt)
