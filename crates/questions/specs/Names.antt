-- The data of `method` that this crate names.
pub use Rattle.method.specs.declared.Line.{Line}
