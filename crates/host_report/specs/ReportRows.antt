-- What a host is told of one line, in numbers: all that stands on it, in the order of `report_said`, as four rows of six numbers. Each value
-- has its own place, and 0 stands where a hold or a price does not.
use Rattle.std.specs.Prelude.{◌≡◌, cond, List, [], ◌∷◌, ◌++◌, ℕ, ℤ, pos, get_or, take, drop, None, Some, Ok}
use Rattle.numbers.specs.Tests.{same}
use Rattle.method.specs.told.Refusals.{mark, report_said}
use Rattle.host_report.specs.Names.{Steps, Seconds, Limits, Book, Price, BothBounds, HoldReport, Report}

-- whether a hold stands, since when, and when it falls due
unfoldable pub hold_told : HoldReport → List ℤ
hold_told None = pos 0 ∷ pos 0 ∷ pos 0 ∷ []
hold_told (Some h) = pos 1 ∷ pos h.start.0 ∷ pos h.due.0 ∷ []

-- whether a price is given, and which
unfoldable pub price_told : Price → List ℤ
price_told None = pos 0 ∷ pos 0 ∷ []
price_told (Some p) = pos 1 ∷ p.0 ∷ []

-- the limits, whether the lower one is frozen, the interest bounds, the centre
unfoldable pub limit_row : Limits → BothBounds → Steps → List ℤ
limit_row k b centre = k.lower.0 ∷ k.upper.0 ∷ mark k.frozen ∷ b.lower.0 ∷ b.upper.0 ∷ centre.0 ∷ []

-- the market bounds of levels 1 to 3
unfoldable pub market_row : BothBounds → BothBounds → BothBounds → List ℤ
market_row a b c = a.lower.0 ∷ a.upper.0 ∷ b.lower.0 ∷ b.upper.0 ∷ c.lower.0 ∷ c.upper.0 ∷ []

-- the up and the down hold
unfoldable pub hold_row : HoldReport → HoldReport → List ℤ
hold_row u d = hold_told u ++ hold_told d

-- the bid, the ask, the shifts left, the clock
unfoldable pub book_row : Book → ℕ → Seconds → List ℤ
book_row book left clock = price_told book.bid ++ price_told book.ask ++ (pos left ∷ pos clock.0 ∷ [])

unfoldable pub report_rows : Report → List (List ℤ)
report_rows r =
    limit_row r.limits r.interest r.centre
    ∷ market_row r.level1 r.level2 r.level3
    ∷ hold_row r.up r.down
    ∷ book_row r.book r.left r.clock
    ∷ []

-- ---- what the rows say is what the method says
-- a mark and its values; where the mark is 0, it alone
abbrev marked : List ℤ → List ℤ
marked ns = cond (same (get_or ns 0 (pos 0)) (pos 0)) (take 1 ns) ns

-- the numbers of the rows, without the places that a mark of 0 leaves free
unfoldable pub said_in : List (List ℤ) → List ℤ
said_in rows =
    let holds : List ℤ = get_or rows 2 [] in
    let book : List ℤ = get_or rows 3 [] in
    get_or rows 0 []
    ++ get_or rows 1 []
    ++ marked (take 3 holds)
    ++ marked (drop 3 holds)
    ++ marked (take 2 book)
    ++ marked (take 2 (drop 2 book))
    ++ drop 4 book

-- Of any report the four rows tell the values of `report_said`, in its order, and nothing else. [report_as_said]
abbrev pub ReportAsSaid : Type 0
ReportAsSaid = (r : Report) → said_in (report_rows r) ≡ (report_said (Ok r)).values
