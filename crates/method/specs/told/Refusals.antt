-- The numbers of refusals (METHOD 23), and what each answer says in numbers: the refusal's number, or 0 where there is none, and the values of
-- that kind of answer.
use Rattle.std.specs.Prelude.{Bool, true, false, List, [], ◌∷◌, ◌++◌, ℕ, ℤ, pos, negsuc, None, Some, Result, Ok, Err}
use Rattle.method.specs.words.Types.{Limits, Price, Field, TableReason, EventReason}
use Rattle.method.specs.told.Types.{TableRefusal, LimitsAnswer, PlaceAnswer, Below, Inside, Above, BothBounds, HoldReport, Report, ReportAnswer}

unfoldable pub table_number : TableReason → ℕ
table_number TableReason.Length = 1
table_number TableReason.Edition = 2
table_number TableReason.Header = 3
table_number TableReason.Key = 4
table_number (TableReason.Field f) = 5
table_number TableReason.Id = 6
table_number TableReason.Exponent = 7
table_number TableReason.HalfMove = 8
table_number TableReason.Corridor = 9

-- the place of a field in the contract's line; the id has place 9
unfoldable pub field_place : Field → ℕ
field_place Field.Price = 1
field_place Field.Spot = 2
field_place Field.Least = 3
field_place Field.Rate1 = 4
field_place Field.Rate2 = 5
field_place Field.Rate3 = 6
field_place Field.Width = 7
field_place Field.Days = 8
field_place Field.Flags = 10

-- that of the field at fault, and 0 where no field is named
unfoldable pub field_number : TableReason → ℕ
field_number TableReason.Length = 0
field_number TableReason.Edition = 0
field_number TableReason.Header = 0
field_number TableReason.Key = 0
field_number (TableReason.Field f) = field_place f
field_number TableReason.Id = 0
field_number TableReason.Exponent = 0
field_number TableReason.HalfMove = 0
field_number TableReason.Corridor = 0

unfoldable pub event_number : EventReason → ℕ
event_number EventReason.AfterEnd = 10
event_number EventReason.BeforeClock = 11
event_number EventReason.Malformed = 12
event_number EventReason.UnknownId = 13
event_number EventReason.Crossed = 14
event_number EventReason.AbsentNotZero = 15
event_number EventReason.PriceOutOfRange = 16

pub record Said : Type 0 where
  pub number : ℕ
  pub values : List ℤ

-- a table's refusal has its line and its field
unfoldable pub table_said : {A : Type 0} → Result A TableRefusal → Said
table_said (Ok opened) = record { number = 0; values = [] }
table_said (Err r) = record { number = table_number r.reason; values = pos r.line ∷ pos (field_number r.reason) ∷ [] }

unfoldable pub event_said : {A : Type 0} → Result A EventReason → Said
event_said (Ok accepted) = record { number = 0; values = [] }
event_said (Err why) = record { number = event_number why; values = [] }

-- no 0, yes 1
abbrev pub mark : Bool → ℤ
mark false = pos 0
mark true = pos 1

-- the lower and the upper limit, and whether the lower one is frozen
abbrev limits_values : Limits → List ℤ
limits_values k = k.lower.0 ∷ k.upper.0 ∷ mark k.frozen ∷ []

unfoldable pub limits_said : LimitsAnswer → Said
limits_said (Ok k) = record { number = 0; values = limits_values k }
limits_said (Err why) = record { number = event_number why; values = [] }

-- below -1, inside 0, above 1
unfoldable pub place_said : PlaceAnswer → Said
place_said (Ok Below) = record { number = 0; values = negsuc 0 ∷ [] }
place_said (Ok Inside) = record { number = 0; values = pos 0 ∷ [] }
place_said (Ok Above) = record { number = 0; values = pos 1 ∷ [] }
place_said (Err why) = record { number = event_number why; values = [] }

-- ---- what stands on one line
-- the lower and the upper bound
abbrev bounds_values : BothBounds → List ℤ
bounds_values b = b.lower.0 ∷ b.upper.0 ∷ []

-- 0, or 1 and the start and the due second
abbrev hold_values : HoldReport → List ℤ
hold_values None = pos 0 ∷ []
hold_values (Some h) = pos 1 ∷ pos h.start.0 ∷ pos h.due.0 ∷ []

-- 0, or 1 and the price
abbrev price_values : Price → List ℤ
price_values None = pos 0 ∷ []
price_values (Some p) = pos 1 ∷ p.0 ∷ []

-- limits, interest bounds, centre, market bounds of levels 1 to 3, up and down hold, bid, ask, shifts left, clock
abbrev report_values : Report → List ℤ
report_values r =
    limits_values r.limits
    ++ bounds_values r.interest
    ++ (r.centre.0 ∷ [])
    ++ bounds_values r.level1
    ++ bounds_values r.level2
    ++ bounds_values r.level3
    ++ hold_values r.up
    ++ hold_values r.down
    ++ price_values r.book.bid
    ++ price_values r.book.ask
    ++ (pos r.left ∷ pos r.clock.0 ∷ [])

unfoldable pub report_said : ReportAnswer → Said
report_said (Ok r) = record { number = 0; values = report_values r }
report_said (Err why) = record { number = event_number why; values = [] }
