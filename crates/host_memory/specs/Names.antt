-- The data of `method`, `host_row` and `corridor` that this crate names.
pub use Rattle.method.specs.declared.Limits.{Limits}
pub use Rattle.method.specs.declared.Book.{Book}
pub use Rattle.method.specs.declared.Holds.{Holds}
pub use Rattle.method.specs.declared.Line.{Line}
pub use Rattle.host_row.specs.declared.Head.{Head}
pub use Rattle.corridor.specs.declared.Session.{Session}
