-- Inputs for the figures and examples, written field by field, and what is read off an answer.
use Rattle.std.specs.Prelude.{List, [], ◌∷◌, ◌++◌, ℕ, ◌+◌, ◌*◌, ◌/◌, ◌%◌, ℤ, pos, length, Ok, Err}
use Rattle.method.specs.words.Types.{Key, Contract, Up, Down, Line, steps, millionths}
use Rattle.method.specs.words.Growth.{rate_at, exponent, factors_of}
use Rattle.method.specs.words.Bounds.{bound}
use Rattle.method.specs.words.Opening.{market_of, corridor}
use Rattle.method.specs.words.Tables.{Opening, opened, refused}
use Rattle.method.specs.told.Types.{Row}
use Rattle.method.specs.told.Refusals.{table_number, field_number, event_number, mark}
use Rattle.method.specs.told.Rows.{side_number}
use Rattle.method.specs.computed.Types.{LineAnswer}
use Rattle.method.specs.computed.Opening.{open_line}
use Rattle.method.specs.computed.Shift.{moved_line}

-- 32-bit fields as bytes, the lowest first
abbrev pub bytes : List ℕ → List ℕ
bytes [] = []
bytes (n ∷ ns) = n % 256 ∷ n / 256 % 256 ∷ n / 65_536 % 256 ∷ n / 16_777_216 ∷ bytes ns

-- ---- the sample table (METHOD 25.11): hold 60, near share 50,000, shift share 500,000
-- a contract before the fields that follow it, with P and spot 1,000
abbrev pub sample_fields : ℕ → ℕ → ℕ → List ℕ → List ℕ
sample_fields width id flags more = 1_000 ∷ 1_000 ∷ 1 ∷ 100_000 ∷ 200_000 ∷ 300_000 ∷ width ∷ 90 ∷ id ∷ flags ∷ more

abbrev pub sample_contracts : List ℕ → List ℕ
sample_contracts [] = []
sample_contracts (id ∷ ids) = sample_fields 500_000 id 2 (sample_contracts ids)

-- with its session end, its most shifts, its numbers of contracts and of keys, and their fields
abbrev pub table : ℕ → ℕ → ℕ → ℕ → List ℕ → List ℕ
table end most contracts keys fields =
    bytes (1 ∷ contracts ∷ (40 + 8 * keys) ∷ keys ∷ 40 ∷ end ∷ 60 ∷ most ∷ 50_000 ∷ 500_000 ∷ fields)

-- with key (365; 0), its session end, its most shifts, its ids, and events
abbrev pub sample : ℕ → ℕ → List ℕ → List ℕ → List ℕ
sample end most ids events = table end most (length ids) 1 (365 ∷ 0 ∷ sample_contracts ids ++ events)

-- one contract of P 30 whose lower limit meets the floor at its first down shift; end 1,000, most shifts 16
abbrev pub thirty : List ℕ → List ℕ
thirty events = table 1_000 16 1 1 (365 ∷ 0 ∷ 30 ∷ 30 ∷ 1 ∷ 1_000_000 ∷ 1_000_000 ∷ 1_000_000 ∷ 900_000 ∷ 90 ∷ 7 ∷ 2 ∷ events)

-- ---- an event before the events that follow it
abbrev pub event : ℕ → ℕ → ℕ → ℕ → ℕ → List ℕ → List ℕ
event t id flags bid ask events = t ∷ id ∷ flags ∷ bid ∷ ask ∷ events

abbrev pub tick : ℕ → List ℕ → List ℕ
tick t events = event t 0 4 0 0 events

abbrev pub empty : ℕ → ℕ → List ℕ → List ℕ
empty t id events = event t id 0 0 0 events

abbrev pub bid : ℕ → ℕ → ℕ → List ℕ → List ℕ
bid t id p events = event t id 1 p 0 events

abbrev pub ask : ℕ → ℕ → ℕ → List ℕ → List ℕ
ask t id p events = event t id 2 0 p events

-- ---- a contract by its fields, opened
-- P, spot, least price, the one rate of its three levels, width share, days left, flags
abbrev pub fields : ℤ → ℤ → ℤ → ℕ → ℕ → ℕ → ℕ → Contract
fields price spot least rate width days flags =
    record {
      price = steps price;
      spot = steps spot;
      least = steps least;
      rate1 = millionths rate;
      rate2 = millionths rate;
      rate3 = millionths rate;
      width = millionths width;
      days = days;
      id = 7;
      flags = flags;
    }

-- with P as its spot, and 365 days, at which the exponent is 1,000 times the key's rate
abbrev pub contract : ℤ → ℤ → ℕ → ℕ → ℕ → Contract
contract price least rate width flags = fields price price least rate width 365 flags

abbrev pub key : ℕ → List Key
key rate = record { days = 365; rate = millionths rate } ∷ []

-- opened with shift share 500,000, as the first line
abbrev pub line : ℕ → Contract → LineAnswer
line rate c = open_line (millionths 500_000) (key rate) [] c

-- the raw lower limit, before it is held against its bound
abbrev pub raw_lower : ℕ → Contract → List ℤ
raw_lower rate c =
    (corridor c.width (factors_of (exponent (rate_at (key rate) c.days) c.days)) (market_of c)).lower.0 ∷ []

-- ---- what is read off an answer
-- of an opened line, or the number that it is refused with
abbrev pub of_line : (Line → List ℤ) → LineAnswer → List ℤ
of_line f (Ok l) = f l
of_line f (Err why) = pos (table_number why) ∷ []

abbrev pub bounds : Line → List ℤ
bounds l = bound Up l.terms.factors l.market ∷ bound Down l.terms.factors l.market ∷ []

abbrev pub both_limits : Line → List ℤ
both_limits l = l.limits.upper.0 ∷ l.limits.lower.0 ∷ []

-- half-move, and after one down shift: centre, half-width, lower bound, lower limit, frozen
abbrev pub shifted_down : Line → List ℤ
shifted_down l =
    let n : Line = moved_line Down l in
    l.terms.halfmove.0
    ∷ n.market.centre.0 ∷ n.market.half1.0 ∷ bound Down n.terms.factors n.market ∷ n.limits.lower.0 ∷ mark n.limits.frozen ∷ []

-- a table's number, its line and its field, or nothing where it opens
abbrev pub table_refusal : Opening → List ℤ
table_refusal (opened s) = []
table_refusal (refused why line) = pos (table_number why) ∷ pos line ∷ pos (field_number why) ∷ []

-- only the numbers of refused events among rows
abbrev pub refusals : List Row → List ℤ
refusals [] = []
refusals (Row.RefusedEvent why place ∷ rows) = pos (event_number why) ∷ refusals rows
refusals (Row.RefusedTable why line ∷ rows) = refusals rows
refusals (Row.Shift c ∷ rows) = refusals rows
refusals (Row.Closed c ∷ rows) = refusals rows

-- only the shift lines among rows: second, side (0 up, 1 down), id
abbrev pub shifts : List Row → List ℤ
shifts [] = []
shifts (Row.Shift c ∷ rows) = pos c.second.0 ∷ pos (side_number c.side) ∷ pos c.id ∷ shifts rows
shifts (Row.RefusedEvent why place ∷ rows) = shifts rows
shifts (Row.RefusedTable why line ∷ rows) = shifts rows
shifts (Row.Closed c ∷ rows) = shifts rows

-- ---- a figure: what is to come, and what the definitions give
pub record Figure : Type 0 where
  pub printed : List ℤ
  pub computed : List ℤ

abbrev pub figure : List ℤ → List ℤ → Figure
figure printed computed = record { printed = printed; computed = computed }
