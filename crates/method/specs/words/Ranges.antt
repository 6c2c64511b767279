-- The ranges of a table's fields (METHOD 3.1, 3.2, 3.3), and the ends of all ranges by name.
use Rattle.std.specs.Prelude.{Bool, false, List, [], ◌∷◌, ◌≡◌, ℕ, ◌≤◌, ◌<◌, pos, ◌≤ℤ◌}
use Rattle.numbers.specs.Ranges.{Within, Between, Span}
use Rattle.method.specs.words.Types.{Header, Key, Contract, Field}
use Rattle.method.specs.words.Wire.{bit}

-- ---- the ends of ranges; the exponent's is `most_exponent`. But for the sizes of arrays no contract, law or proof has these numbers, and
-- src/lib.rt has them once more, proved to be the same.
abbrev pub most_contracts : ℕ
most_contracts = 32

abbrev pub most_keys : ℕ
most_keys = 16

-- in seconds
abbrev pub longest_session : ℕ
longest_session = 172_800

abbrev pub longest_hold : ℕ
longest_hold = 3_600

abbrev pub most_shifts : ℕ
most_shifts = 16

abbrev pub largest_near_share : ℕ
largest_near_share = 500_000

-- one, in millionths: what a share is a part of (METHOD 1.2)
abbrev pub whole : ℕ
whole = 1_000_000

-- of a key
abbrev pub largest_rate : ℕ
largest_rate = 1_000_000

abbrev pub most_days : ℕ
most_days = 3_650

-- of a contract: settlement price, spot and least price
abbrev pub largest_price : ℕ
largest_price = 100_000_000

-- of an event: bid and ask
abbrev pub largest_quote : ℕ
largest_quote = 2_000_000_000

-- ---- the two flags of a contract (METHOD 3.6)
abbrev pub permits_negative : ℕ → Bool
permits_negative flags = bit 0 flags

abbrev pub under_watch : ℕ → Bool
under_watch flags = bit 1 flags

-- ---- the header (METHOD 3.1)
pub record HeaderIn (h : Header) : Type 0 where
  pub contracts : Between 1 most_contracts h.contracts
  pub keys : Between 1 most_keys h.keys
  pub end : Between 1 longest_session h.end.0
  pub hold : Between 1 longest_hold h.hold.0
  pub most : h.most ≤ most_shifts
  pub near : Between 1 largest_near_share h.near.0
  pub shift : Between 1 whole h.shift.0

-- ---- keys, each above the one before it (METHOD 3.2)
pub record KeyIn (before : ℕ) (k : Key) : Type 0 where
  pub days : Between 1 most_days k.days
  pub rising : before < k.days
  pub rate : k.rate.0 ≤ largest_rate

unfoldable pub KeysIn : ℕ → List Key → Type 0
KeysIn before [] = Unit {0}
KeysIn before (k ∷ keys) = KeyIn before k × KeysIn k.days keys

-- ---- a contract, its id aside: what is asked of each field (METHOD 3.3)
abbrev pub FieldIn : Field → Contract → Type 0
FieldIn Field.Price c = Within largest_price c.price.0 × (permits_negative c.flags ≡ false → pos 1 ≤ℤ c.price.0)
FieldIn Field.Spot c = Within largest_price c.spot.0
FieldIn Field.Least c = Span (pos 1) (pos largest_price) c.least.0
FieldIn Field.Rate1 c = Between 1 whole c.rate1.0
FieldIn Field.Rate2 c = Between 1 whole c.rate2.0 × (c.rate1.0 ≤ c.rate2.0)
FieldIn Field.Rate3 c = Between 1 whole c.rate3.0 × (c.rate2.0 ≤ c.rate3.0)
FieldIn Field.Width c = c.width.0 ≤ whole
FieldIn Field.Days c = c.days ≤ most_days
FieldIn Field.Flags c = c.flags < 4

abbrev pub ContractIn : Contract → Type 0
ContractIn c = (f : Field) → FieldIn f c

-- the fields in the order of their places in the line
abbrev pub contract_fields : List Field
contract_fields =
    Field.Price ∷ Field.Spot ∷ Field.Least ∷ Field.Rate1 ∷ Field.Rate2 ∷ Field.Rate3 ∷ Field.Width ∷ Field.Days ∷ Field.Flags ∷ []

-- ---- of each element of a list
unfoldable pub Every : {A : Type 0} → (A → Type 0) → List A → Type 0
Every P [] = Unit {0}
Every P (x ∷ xs) = P x × Every P xs
