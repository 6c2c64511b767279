-- The types that the code goes by on its way to an answer: which sides are watched, what a byte string says, the hold that is found, a contract's
-- answer. The records are as src/lib.rt declares them.
use Rattle.std.specs.Prelude.{Option, Result}
use Rattle.method.specs.words.Types.{Line, Due, Field, TableReason, EventReason}
pub use Rattle.method.specs.declared.Watch.{Watch}
pub use Rattle.method.specs.declared.Quote.{Quote}
pub use Rattle.method.specs.declared.Event.{Event}
pub use Rattle.method.specs.declared.Event.TheVariants.{Tick, Quoted}

-- what a byte string says: an event, or why it is none
abbrev pub ReadEvent : Type 0
ReadEvent = Result Event EventReason

abbrev pub Found : Type 0
Found = Option Due

-- all fields good, or the first one that is not
abbrev pub FieldsAnswer : Type 0
FieldsAnswer = Result (Unit {0}) Field

abbrev pub LineAnswer : Type 0
LineAnswer = Result Line TableReason
