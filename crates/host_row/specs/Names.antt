-- The data of `method` that this crate names, and its own.
pub use Rattle.method.specs.words.Types.{Price, Hold}
pub use Rattle.method.specs.declared.Terms.{Terms}
pub use Rattle.method.specs.declared.Market.{Market}
pub use Rattle.method.specs.declared.Limits.{Limits}
pub use Rattle.method.specs.declared.Book.{Book}
pub use Rattle.method.specs.declared.Holds.{Holds}
pub use Rattle.method.specs.declared.Line.{Line}
pub use Rattle.host_row.specs.declared.Head.{Head}
