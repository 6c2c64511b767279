-- The data of `numbers` and `method` that this crate names.
pub use Rattle.numbers.specs.declared.Steps.{Steps}
pub use Rattle.numbers.specs.declared.Millionths.{Millionths}
pub use Rattle.method.specs.declared.Contract.{Contract}
pub use Rattle.method.specs.declared.Field.{Field}
pub use Rattle.method.specs.declared.Side.TheVariants.{Up, Down}
pub use Rattle.method.specs.declared.Factors.{Factors}
pub use Rattle.method.specs.declared.Market.{Market}
pub use Rattle.method.specs.declared.Limits.{Limits}
