-- `host_intact::beside`: what is decided of the head that was read is decided of the session.
use Rattle.std.proofs.Common.{sym, subst}
use Rattle.numbers.specs.Decides.{Decides}
use Rattle.method.specs.computed.Head.{most_left}
use Rattle.corridor.specs.declared.Session.{Session}
use Rattle.host_intact.specs.Tests.{BesideIn}
use Rattle.host_intact.proofs.beside.Goals as goal

pub returns : goal.returns
unfolding most_left
returns c = subst (λ (s : Session). Decides c.in_range.result (BesideIn s)) (sym c.head.ensures) c.in_range.ensures
