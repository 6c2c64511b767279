-- Which answer a table has (METHOD 11): a session, or a refusal with its line, and 5 with its field. One clause for each way, over fields and ranges and with none of the
-- tests that refuse.
use Rattle.std.specs.Prelude.{List, [], ◌∷◌, ◌++◌, map, ◌≡◌, ℕ, ◌≤◌, ◌<◌, suc, pos, length, ◌≤ℤ◌, ◌<ℤ◌}
use Rattle.method.specs.words.Types.{Millionths, Header, Key, Contract, Up, Down, Factors, Terms, Market, Limits, Line, Field, TableReason, seconds, State}
use Rattle.method.specs.words.Layout.{header_of, contracts_start, table_length, keys_at, contracts_at}
use Rattle.method.specs.words.Ranges.{HeaderIn, KeyIn, KeysIn, FieldIn, ContractIn, contract_fields, Every}
use Rattle.method.specs.words.Growth.{most_exponent}
use Rattle.method.specs.words.Bounds.{bound}
use Rattle.method.specs.words.Opening.{market_of, terms_of, corridor, fresh_line, exponent_of}

-- ---- a table that is laid out as its header says (METHOD 11.1 to 11.4)
pub record Laid (h : Header) (size : ℕ) : Type 0 where
  pub keys : h.keysat ≡ 40
  pub contracts : h.contractsat ≡ contracts_start h
  pub whole : size ≡ table_length h

pub record Framed (b : List ℕ) : Type 0 where
  pub long : 40 ≤ length b
  pub edition : (header_of b).edition ≡ 1
  pub ranges : HeaderIn (header_of b)
  pub laid : Laid (header_of b) (length b)

abbrev pub keys_of : List ℕ → List Key
keys_of b = keys_at b 40 (header_of b).keys

abbrev pub contracts_of : List ℕ → List Contract
contracts_of b = contracts_at b (contracts_start (header_of b)) (header_of b).contracts

-- the days of the last of some keys, or of what stands before them
unfoldable pub last_days : ℕ → List Key → ℕ
last_days before [] = before
last_days before (k ∷ keys) = last_days k.days keys

-- ---- a contract after some contracts before it: an id that is not 0 and not theirs, and limits inside their bounds (METHOD 11.6)
pub record Fresh (earlier : List Contract) (id : ℕ) : Type 0 where
  pub given : 0 < id
  pub new : Every (λ e. e.id ≡ id → ⊥) earlier

pub record InsideBounds (f : Factors) (m : Market) (k : Limits) : Type 0 where
  pub upper : k.upper.0 ≤ℤ (bound Up f m)
  pub lower : (bound Down f m) ≤ℤ k.lower.0

module _ (shift : Millionths) (keys : List Key) where
  abbrev pub its_terms : Contract → Terms
  its_terms c = terms_of shift (exponent_of keys c) c

  abbrev pub its_corridor : Contract → Limits
  its_corridor c = corridor c.width (its_terms c).factors (market_of c)

  -- the line that a good contract opens
  abbrev pub its_line : Contract → Line
  its_line c = fresh_line (its_terms c) (market_of c) (its_corridor c)

  pub record Good (earlier : List Contract) (c : Contract) : Type 0 where
    pub fields : ContractIn c
    pub id : Fresh earlier c.id
    pub cap : exponent_of keys c ≤ most_exponent
    pub moves : pos 1 ≤ℤ (its_terms c).halfmove.0
    pub inside : InsideBounds (its_terms c).factors (market_of c) (its_corridor c)

  unfoldable pub GoodAll : List Contract → List Contract → Type 0
  GoodAll earlier [] = Unit {0}
  GoodAll earlier (c ∷ cs) = Good earlier c × GoodAll (earlier ++ (c ∷ [])) cs

  -- refusals 5 to 9, in this order: each fault where none before it stands, and of the fields the first that is out of its range (METHOD 11.11)
  pub data Fault (earlier : List Contract) (c : Contract) : TableReason → Type 0 where
    field :
        (before : List Field) (f : Field) (rest : List Field) → contract_fields ≡ before ++ f ∷ rest → Every (λ e. FieldIn e c) before → (FieldIn f c → ⊥)
        → Fault earlier c (TableReason.Field f)
    id : ContractIn c → (Fresh earlier c.id → ⊥) → Fault earlier c TableReason.Id
    exponent : ContractIn c → Fresh earlier c.id → most_exponent < exponent_of keys c → Fault earlier c TableReason.Exponent
    half_move :
        ContractIn c → Fresh earlier c.id → exponent_of keys c ≤ most_exponent → (its_terms c).halfmove.0 <ℤ pos 1
        → Fault earlier c TableReason.HalfMove
    limit :
        ContractIn c → Fresh earlier c.id → exponent_of keys c ≤ most_exponent → pos 1 ≤ℤ (its_terms c).halfmove.0
        → (InsideBounds (its_terms c).factors (market_of c) (its_corridor c) → ⊥) → Fault earlier c TableReason.Corridor

-- ---- the answers, and the state that a table opens (METHOD 11.9, 11.10)
pub data Opening : Type 0 where
  opened : State → Opening
  refused : TableReason → ℕ → Opening

unfoldable pub opening_state : Header → List Line → State
opening_state h ls = record { lines = ls; clock = seconds 0; end = h.end; hold = h.hold; left = h.most; near = h.near }

-- ---- the answer to a table: one clause for each way, and together they leave exactly one answer (METHOD 11.7, 11.8)
pub data TableAnswered (b : List ℕ) : Opening → Type 0 where
  -- refusal 1
  too_short : length b < 40 → TableAnswered b (refused TableReason.Length 0)
  -- 2
  edition_not_1 : 40 ≤ length b → ((header_of b).edition ≡ 1 → ⊥) → TableAnswered b (refused TableReason.Edition 0)
  -- 3
  header_out_of_range :
      40 ≤ length b → (header_of b).edition ≡ 1 → (HeaderIn (header_of b) → ⊥) → TableAnswered b (refused TableReason.Header 0)
  -- the rest of 1
  not_as_counts_say :
      40 ≤ length b → (header_of b).edition ≡ 1 → HeaderIn (header_of b) → (Laid (header_of b) (length b) → ⊥)
      → TableAnswered b (refused TableReason.Length 0)
  -- 4, with the key's line: the first key that is out of range or not above the one before it
  bad_key_line :
      (before : List Key) (k : Key) (rest : List Key) → Framed b → keys_of b ≡ before ++ k ∷ rest → KeysIn 0 before
      → (KeyIn (last_days 0 before) k → ⊥) → TableAnswered b (refused TableReason.Key (suc (length before)))
  -- 5 to 9, with the contract's line: the first contract that has a fault, and the first of its faults
  bad_contract_line :
      (before : List Contract) (c : Contract) (rest : List Contract) (why : TableReason) → Framed b → KeysIn 0 (keys_of b)
      → contracts_of b ≡ before ++ c ∷ rest → GoodAll (header_of b).shift (keys_of b) [] before
      → Fault (header_of b).shift (keys_of b) before c why → TableAnswered b (refused why (suc (length before)))
  -- no fault: the session opens, a line for each contract
  all_good :
      Framed b → KeysIn 0 (keys_of b) → GoodAll (header_of b).shift (keys_of b) [] (contracts_of b)
      → TableAnswered b (opened (opening_state (header_of b) (map (its_line (header_of b).shift (keys_of b)) (contracts_of b))))
