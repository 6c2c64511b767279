-- The data of `numbers` and `method` that this crate names.
pub use Rattle.numbers.specs.declared.Seconds.{Seconds}
pub use Rattle.method.specs.declared.Side.{Side}
pub use Rattle.method.specs.declared.Side.TheVariants.{Up, Down}
pub use Rattle.method.specs.words.Types.{Hold}
pub use Rattle.method.specs.declared.Holds.{Holds}
pub use Rattle.method.specs.declared.Line.{Line}
pub use Rattle.method.specs.declared.Quote.{Quote}
pub use Rattle.method.specs.declared.ShiftLine.{ShiftLine}
pub use Rattle.method.specs.declared.Due.{Due}
pub use Rattle.method.specs.declared.Event.TheVariants.{Tick, Quoted}
pub use Rattle.method.specs.declared.EventReason.{EventReason}
pub use Rattle.method.specs.computed.Types.{ReadEvent}
