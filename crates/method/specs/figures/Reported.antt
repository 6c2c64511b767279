-- A report in figures.
use Rattle.std.specs.Prelude.{false, [], ◌∷◌, ◌≡◌, refl, pos, None, Some}
use Rattle.method.specs.words.Types.{Line, steps, seconds, billionths, State}
use Rattle.method.specs.words.Wire.{word}
use Rattle.method.specs.words.Layout.{header_of}
use Rattle.method.specs.words.Bounds.{factor, interest, outward, bound}
use Rattle.method.specs.words.Tables.{opening_state}
use Rattle.method.specs.told.Refusals.{event_number, Said, report_said}
use Rattle.method.specs.told.Questions.{listed, line_of}
use Rattle.method.specs.told.Report.{market_bounds, interest_bounds, hold_report, line_report, report}
use Rattle.method.specs.computed.Head.{with_lines}
use Rattle.method.specs.figures.Inputs.{sample}

-- the sample table's line and state after a bid of 1046 at 10 and a tick at 69, the line written out by hand
abbrev sample_line : Line
sample_line =
    record {
      terms =
          record {
            id = 7;
            flags = 2;
            halfmove = steps (pos 25);
            factors = record { up = billionths 1_000_000_000; down = billionths 1_000_000_000 };
          };
      market = record { centre = steps (pos 1_000); half1 = steps (pos 100); half2 = steps (pos 200); half3 = steps (pos 300) };
      limits = record { upper = steps (pos 1_050); lower = steps (pos 950); frozen = false };
      book = record { bid = Some (steps (pos 1_046)); ask = None };
      holds = record { up = Some (seconds 10); down = None };
    }

abbrev sample_state : State
sample_state = with_lines (opening_state (header_of (sample 1_000 2 (7 ∷ []) [])) []) (sample_line ∷ []) 2 (seconds 69)

-- Limits 950 and 1,050, not frozen; interest bounds 900 and 1,100; centre 1,000; market bounds 900 and 1,100, 800 and 1,200, 700 and
-- 1,300; an up hold from 10, due at 70, and no down hold; the bid 1,046 and no ask; two shifts left, the clock at 69.
abbrev sample_report : Said
sample_report =
    record {
      number = 0;
      values =
          pos 950 ∷ pos 1_050 ∷ pos 0 ∷ pos 900 ∷ pos 1_100 ∷ pos 1_000 ∷ pos 900 ∷ pos 1_100 ∷ pos 800 ∷ pos 1_200 ∷ pos 700 ∷ pos 1_300
          ∷ pos 1 ∷ pos 10 ∷ pos 70 ∷ pos 0 ∷ pos 1 ∷ pos 1_046 ∷ pos 0 ∷ pos 2 ∷ pos 69 ∷ [];
    }

pub report_figure : report_said (report 7 sample_state) ≡ sample_report
unfolding word header_of opening_state factor interest outward bound listed line_of event_number report_said market_bounds interest_bounds hold_report line_report report
report_figure = refl

-- an id that no line has
pub report_refused : report_said (report 8 sample_state) ≡ record { number = 13; values = [] }
unfolding word header_of opening_state factor interest outward bound listed line_of event_number report_said market_bounds interest_bounds hold_report line_report report
report_refused = refl
