-- The data of `numbers` and `method` that this crate names.
pub use Rattle.numbers.specs.declared.Millionths.{Millionths}
pub use Rattle.numbers.specs.declared.Seconds.{Seconds}
pub use Rattle.method.specs.declared.Header.{Header}
pub use Rattle.method.specs.declared.Key.{Key}
pub use Rattle.method.specs.declared.Contract.{Contract}
pub use Rattle.method.specs.declared.Field.{Field}
pub use Rattle.method.specs.declared.Terms.{Terms}
pub use Rattle.method.specs.declared.Market.{Market}
pub use Rattle.method.specs.declared.Line.{Line}
pub use Rattle.method.specs.declared.TableReason.{TableReason}
pub use Rattle.method.specs.declared.TableRefusal.{TableRefusal}
