-- The data of `numbers` and `method` that this crate names.
pub use Rattle.numbers.specs.declared.Seconds.{Seconds}
pub use Rattle.method.specs.declared.EventReason.{EventReason}
pub use Rattle.method.specs.declared.Event.TheVariants.{Tick, Quoted}
pub use Rattle.method.specs.words.Types.{EventAnswer}
pub use Rattle.method.specs.computed.Types.{ReadEvent}
