-- The data of `numbers` and `method` that this crate names.
pub use Rattle.numbers.specs.declared.Steps.{Steps}
pub use Rattle.numbers.specs.declared.Seconds.{Seconds}
pub use Rattle.method.specs.declared.Limits.{Limits}
pub use Rattle.method.specs.declared.Book.{Book}
pub use Rattle.method.specs.words.Types.{Price}
pub use Rattle.method.specs.declared.BothBounds.{BothBounds}
pub use Rattle.method.specs.declared.Report.{Report}
pub use Rattle.method.specs.told.Types.{HoldReport}
