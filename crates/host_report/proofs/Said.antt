-- The rows of a report say what the method says of it: by the ways in which two holds and two prices may stand. Assumes nothing.
use Rattle.std.specs.Prelude.{None, Some, Ok}
use mathlib.Core.Path.{◌≡◌, refl}
use Rattle.method.specs.told.Refusals.{report_said}
use Rattle.host_report.specs.Names.{Price, HoldReport, Report}
use Rattle.host_report.specs.ReportRows.{hold_told, price_told, limit_row, market_row, hold_row, book_row, report_rows, said_in, ReportAsSaid}

-- the report with other holds and another book
abbrev standing : Report → HoldReport → HoldReport → Price → Price → Report
standing r u d b a =
    record {
      limits = r.limits;
      interest = r.interest;
      centre = r.centre;
      level1 = r.level1;
      level2 = r.level2;
      level3 = r.level3;
      up = u;
      down = d;
      book = record { bid = b; ask = a };
      left = r.left;
      clock = r.clock;
    }

pub report_as_said : ReportAsSaid
unfolding said_in report_rows limit_row market_row hold_row book_row hold_told price_told report_said
report_as_said r = go r.up r.down r.book.bid r.book.ask
  where
    go : (u d : HoldReport) (b a : Price) → said_in (report_rows (standing r u d b a)) ≡ (report_said (Ok (standing r u d b a))).values
    go None None None None = refl
    go None None None (Some q) = refl
    go None None (Some p) None = refl
    go None None (Some p) (Some q) = refl
    go None (Some y) None None = refl
    go None (Some y) None (Some q) = refl
    go None (Some y) (Some p) None = refl
    go None (Some y) (Some p) (Some q) = refl
    go (Some x) None None None = refl
    go (Some x) None None (Some q) = refl
    go (Some x) None (Some p) None = refl
    go (Some x) None (Some p) (Some q) = refl
    go (Some x) (Some y) None None = refl
    go (Some x) (Some y) None (Some q) = refl
    go (Some x) (Some y) (Some p) None = refl
    go (Some x) (Some y) (Some p) (Some q) = refl
