-- An opened table's session is a valid one.
use Rattle.std.proofs.Common.{sym, ◌∙◌}
use Rattle.corridor.proofs.Theorems.{valid-opened}
use Rattle.figures.proofs.main.Goals as goal

pub lines-requires : goal.lines-requires
lines-requires c = valid-opened _ (sym c.in-Ok.is ∙ c.open.ensures)
