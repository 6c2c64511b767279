-- The head that was read is that of the session in the memory.
use Rattle.std.proofs.Common.{◌≡◌, ap}
use Rattle.host_memory.specs.Names.{Session}
use Rattle.host_memory.specs.Memory.{session_in}
use Rattle.host_memory.proofs.Places.{lines_in_use}
use Rattle.host_memory.proofs.lines.Goals as goal

pub returns : goal.returns
returns c =
    let count : (session_in c.args.memory.now).count ≡ c.head.result.count = ap (λ (s : Session). s.count) c.head.ensures in
    rw (← count) (lines_in_use c.args.memory.now (session_in c.args.memory.now).count c.requires)
