-- `host_memory::with_clock`: the head's row is stored, with the fields that were read but for the clock.
use Rattle.std.proofs.Common.{sym, ap, ◌∙◌}
use Rattle.corridor.specs.View.{moved_on}
use Rattle.host_memory.specs.Names.{Session}
use Rattle.host_memory.specs.Memory.{session_in}
use Rattle.host_memory.proofs.Places.{head_stored}
use Rattle.host_memory.proofs.with_clock.Goals as goal

pub returns : goal.returns
returns c =
    let pairs = c.args.memory.now in
    head_stored pairs c.set_head.new.pair c.told-memory c.set_head.ensures
    ∙ ap (λ (z : Session). moved_on z (session_in pairs).lines c.args.t) (sym c.head-head.ensures)
