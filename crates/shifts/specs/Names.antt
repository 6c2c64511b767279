-- The data of `numbers` and `method` that this crate names.
pub use Rattle.numbers.specs.declared.Millionths.{Millionths}
pub use Rattle.method.specs.declared.Side.{Side}
pub use Rattle.method.specs.declared.Side.TheVariants.{Up, Down}
pub use Rattle.method.specs.declared.Factors.{Factors}
pub use Rattle.method.specs.declared.Terms.{Terms}
pub use Rattle.method.specs.declared.Market.{Market}
pub use Rattle.method.specs.declared.Limits.{Limits}
pub use Rattle.method.specs.words.Types.{Price}
pub use Rattle.method.specs.declared.Line.{Line}
