-- The data of `method` that this crate names.
pub use Rattle.method.specs.declared.Side.{Side}
pub use Rattle.method.specs.declared.Side.TheVariants.{Up, Down}
pub use Rattle.method.specs.declared.Factors.{Factors}
pub use Rattle.method.specs.declared.Market.{Market}
