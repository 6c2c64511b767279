-- The types of answers. Each is what is told, or the refusal in its place; the records are as src/lib.rt declares them.
use Rattle.std.specs.Prelude.{Option, Result}
use Rattle.method.specs.words.Types.{Limits, EventReason}
pub use Rattle.method.specs.declared.TableRefusal.{TableRefusal}
pub use Rattle.method.specs.declared.Place.{Place}
pub use Rattle.method.specs.declared.Place.TheVariants.{Below, Inside, Above}
pub use Rattle.method.specs.declared.BothBounds.{BothBounds}
pub use Rattle.method.specs.declared.HoldTimes.{HoldTimes}
pub use Rattle.method.specs.declared.Report.{Report}
pub use Rattle.method.specs.declared.Closing.{Closing}
pub use Rattle.method.specs.declared.Row.{Row}

abbrev pub LimitsAnswer : Type 0
LimitsAnswer = Result Limits EventReason

abbrev pub PlaceAnswer : Type 0
PlaceAnswer = Result Place EventReason

abbrev pub HoldReport : Type 0
HoldReport = Option HoldTimes

abbrev pub ReportAnswer : Type 0
ReportAnswer = Result Report EventReason
