-- The data of `numbers`, `method` and `corridor` that this crate names.
pub use Rattle.numbers.specs.declared.Seconds.{Seconds}
pub use Rattle.method.specs.declared.EventReason.{EventReason}
pub use Rattle.method.specs.declared.TableRefusal.{TableRefusal}
pub use Rattle.method.specs.declared.Line.{Line}
pub use Rattle.corridor.specs.declared.Session.{Session}
