-- All that a gate or an operator asks of one line, in one answer (METHOD 21). Like the other questions it knows only refusal 13, and serves
-- nothing: what it tells is as of the clock.
use Rattle.std.specs.Prelude.{ℕ, ◌+◌, ℤ, None, Some, Ok, Err}
use Rattle.method.specs.words.Types.{Steps, Seconds, Side, Up, Down, Hold, Line, EventReason, steps, seconds, State}
use Rattle.method.specs.words.Bounds.{market_bound, bound}
use Rattle.method.specs.told.Types.{BothBounds, HoldReport, Report, ReportAnswer}
use Rattle.method.specs.told.Questions.{known, line_of, demand}

-- the bounds of both sides, from the bound of each
abbrev pub bounds_by : (Side → ℤ) → BothBounds
bounds_by f = record { upper = steps (f Up); lower = steps (f Down) }

unfoldable pub market_bounds : Steps → Steps → BothBounds
market_bounds centre half = bounds_by (λ side. market_bound side centre half)

unfoldable pub interest_bounds : Line → BothBounds
interest_bounds l = bounds_by (λ side. bound side l.terms.factors l.market)

-- with the second at which it is due, also where that is not before session end
unfoldable pub hold_report : Seconds → Hold → HoldReport
hold_report wait None = None
hold_report wait (Some start) = Some (record { start = start; due = seconds (start.0 + wait.0) })

-- one line, with the hold seconds, the shifts left and the clock of its session
unfoldable pub line_report : Seconds → ℕ → Seconds → Line → Report
line_report wait left clock l =
    record {
      limits = l.limits;
      interest = interest_bounds l;
      centre = l.market.centre;
      level1 = market_bounds l.market.centre l.market.half1;
      level2 = market_bounds l.market.centre l.market.half2;
      level3 = market_bounds l.market.centre l.market.half3;
      up = hold_report wait l.holds.up;
      down = hold_report wait l.holds.down;
      book = l.book;
      left = left;
      clock = clock;
    }

unfoldable pub report : ℕ → State → ReportAnswer
report id s =
    demand (known id s) (Err EventReason.UnknownId)
    (Ok (line_report s.hold s.left s.clock (line_of id s.lines)))
