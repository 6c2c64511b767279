-- One contract opened from its ten fields, or refused with 5, 6, 7, 8 or 9, test by test (METHOD 11.6).
use Rattle.std.specs.Prelude.{Bool, cond, ◌&&◌, not, ◌||◌, List, [], ◌∷◌, map, ℕ, ltb, leb, pos, Ok, Err}
use Rattle.std.specs.Int.Signed.{le_z}
use Rattle.numbers.specs.Tests.{in_span, in_range, between}
use Rattle.method.specs.words.Types.{Millionths, Key, Contract, Up, Down, Factors, Terms, Market, Limits, Line, Field, TableReason}
use Rattle.method.specs.words.Ranges.{whole, most_days, largest_price, permits_negative, contract_fields}
use Rattle.method.specs.words.Growth.{most_exponent}
use Rattle.method.specs.words.Bounds.{bound}
use Rattle.method.specs.words.Opening.{market_of, terms_of, corridor, fresh_line, exponent_of}
use Rattle.method.specs.told.Questions.{listed, demand}
use Rattle.method.specs.computed.Types.{FieldsAnswer, LineAnswer}

-- ---- ranges (refusal 5), field by field
unfoldable pub field_good : Field → Contract → Bool
field_good Field.Price c = in_span largest_price c.price.0 && (permits_negative c.flags || le_z (pos 1) c.price.0)
field_good Field.Spot c = in_span largest_price c.spot.0
field_good Field.Least c = between (pos 1) (pos largest_price) c.least.0
field_good Field.Rate1 c = in_range 1 whole c.rate1.0
field_good Field.Rate2 c = in_range 1 whole c.rate2.0 && leb c.rate1.0 c.rate2.0
field_good Field.Rate3 c = in_range 1 whole c.rate3.0 && leb c.rate2.0 c.rate3.0
field_good Field.Width c = leb c.width.0 whole
field_good Field.Days c = leb c.days most_days
field_good Field.Flags c = ltb c.flags 4

-- the first of some fields that is not good, and of all
unfoldable pub first_bad : Contract → List Field → FieldsAnswer
first_bad c [] = Ok tt
first_bad c (f ∷ fs) = cond (field_good f c) (first_bad c fs) (Err f)

abbrev pub fields_answer : Contract → FieldsAnswer
fields_answer c = first_bad c contract_fields

abbrev pub ids : List Line → List ℕ
ids ls = map (λ (l : Line). l.terms.id) ls

unfoldable pub id_good : List Line → ℕ → Bool
id_good earlier id = ltb 0 id && not (listed id (ids earlier))

unfoldable pub inside_bounds : Factors → Market → Limits → Bool
inside_bounds f m k = le_z k.upper.0 (bound Up f m) && le_z (bound Down f m) k.lower.0

unfoldable pub opened_with : Millionths → Terms → Market → LineAnswer
opened_with width t m =
    demand (le_z (pos 1) t.halfmove.0) (Err TableReason.HalfMove)
    (demand (inside_bounds t.factors m (corridor width t.factors m)) (Err TableReason.Corridor)
    (Ok (fresh_line t m (corridor width t.factors m))))

abbrev pub if_fields_good : FieldsAnswer → LineAnswer → LineAnswer
if_fields_good (Ok good) onward = onward
if_fields_good (Err f) onward = Err (TableReason.Field f)

unfoldable pub open_line : Millionths → List Key → List Line → Contract → LineAnswer
open_line shift keys earlier c =
    let y : ℕ = exponent_of keys c in
    if_fields_good (fields_answer c)
    (demand (id_good earlier c.id) (Err TableReason.Id)
    (demand (leb y most_exponent) (Err TableReason.Exponent)
    (opened_with c.width (terms_of shift y c) (market_of c))))
