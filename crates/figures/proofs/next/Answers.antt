-- An event leaves a valid session.
use Rattle.std.proofs.Common.{sym, subst}
use Rattle.corridor.specs.View.{Valid}
use Rattle.corridor.proofs.Theorems.{valid-event}
use Rattle.figures.proofs.next.Goals as goal

pub returns : goal.returns
returns g c = subst Valid (sym c.event.ensures.left) (valid-event _ _ c.requires)
