-- Refusals that say more than they once did: 5 names its field, and what is no event has 12, 15 or 16. Put together again each is given exactly
-- where it was given before (METHOD 23.18). The ranges of a contract and what is an event stand here once more, in the form that they had when
-- each had one refusal. Words and statements, and no proof; the name in brackets is the theorem, in proofs/Parted.
use Rattle.std.specs.Prelude.{Bool, true, false, List, ◌↔◌, ◌≡◌, ℕ, ◌≤◌, ◌<◌, ℤ, pos, length, ◌≤ℤ◌, Err}
use Rattle.numbers.specs.Ranges.{Within, Between, Span}
use Rattle.method.specs.words.Types.{Millionths, Key, Contract, Field, TableReason, EventReason, State}
use Rattle.method.specs.words.Wire.{word, signed, bit}
use Rattle.method.specs.words.Ranges.{whole, most_days, largest_price, largest_quote, permits_negative}
use Rattle.method.specs.words.Tables.{Fault}
use Rattle.method.specs.words.Events.{IsTick, EventAnswered}

-- ---- a contract in its ranges, its id aside, as one record
pub record ContractOnce (c : Contract) : Type 0 where
  pub price : Within largest_price c.price.0
  pub positive : permits_negative c.flags ≡ false → pos 1 ≤ℤ c.price.0
  pub spot : Within largest_price c.spot.0
  pub least : Span (pos 1) (pos largest_price) c.least.0
  pub rate1 : Between 1 whole c.rate1.0
  pub rate2 : Between 1 whole c.rate2.0
  pub rate3 : Between 1 whole c.rate3.0
  pub rising2 : c.rate1.0 ≤ c.rate2.0
  pub rising3 : c.rate2.0 ≤ c.rate3.0
  pub width : c.width.0 ≤ whole
  pub days : c.days ≤ most_days
  pub flags : c.flags < 4

-- a contract after some contracts before it has a fault of refusal 5, whatever field it names
pub record FieldFault (shift : Millionths) (keys : List Key) (earlier : List Contract) (c : Contract) : Type 0 where
  pub field : Field
  pub fault : Fault shift keys earlier c (TableReason.Field field)

-- It has one exactly where it is not in its ranges. (field_parted)
abbrev pub FieldParted : Type 0
FieldParted =
    (shift : Millionths) (keys : List Key) (earlier : List Contract) (c : Contract) → FieldFault shift keys earlier c ↔ (ContractOnce c → ⊥)

-- ---- an event, each price judged by itself
pub record PriceOnce (present : Bool) (z : ℤ) : Type 0 where
  pub in_range : present ≡ true → Within largest_quote z
  pub absent : present ≡ false → z ≡ pos 0

pub record QuoteOnce (b : List ℕ) : Type 0 where
  pub whole : length b ≡ 20
  pub flags : word b 8 < 4
  pub bid : PriceOnce (bit 0 (word b 8)) (signed (word b 12))
  pub ask : PriceOnce (bit 1 (word b 8)) (signed (word b 16))

pub data EventOnce (b : List ℕ) : Type 0 where
  tick : IsTick b → EventOnce b
  quote : QuoteOnce b → EventOnce b

-- a byte string is refused in a state with 12, 15 or 16
pub data RefusedUnread (s : State) (b : List ℕ) : Type 0 where
  malformed : EventAnswered s b (Err EventReason.Malformed) → RefusedUnread s b
  absent : EventAnswered s b (Err EventReason.AbsentNotZero) → RefusedUnread s b
  out_of_range : EventAnswered s b (Err EventReason.PriceOutOfRange) → RefusedUnread s b

-- It is so refused exactly where it is no event, whatever the state. (no_event_parted)
abbrev pub NoEventParted : Type 0
NoEventParted = (s : State) (b : List ℕ) → RefusedUnread s b ↔ (EventOnce b → ⊥)
