-- The data of `numbers` and `method` that this crate names.
pub use Rattle.numbers.specs.declared.Millionths.{Millionths}
pub use Rattle.method.specs.declared.Line.{Line}
