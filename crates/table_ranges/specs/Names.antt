-- The data of `method` that this crate names.
pub use Rattle.method.specs.declared.Key.{Key}
pub use Rattle.method.specs.declared.Contract.{Contract}
pub use Rattle.method.specs.declared.Field.{Field}
