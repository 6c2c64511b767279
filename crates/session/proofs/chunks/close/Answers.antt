-- What is written is the text of the closing lines.
use Rattle.std.proofs.Common.{subst}
use Rattle.std.specs.Io.KnownBytes.{Appends}
use Rattle.session.proofs.Answering.{on_ok}
use Rattle.session.proofs.chunks.close.Goals as goal

pub returns : goal.returns
returns g c = on_ok c.write_all.result (λ said. subst (Appends _ _) c.closing-size.ensures.same said) c.write_all.ensures.bytes
