-- The head that was read is that of the session in the memory, so a pair that is passed is one of its lines, with its hold seconds.
use Rattle.std.proofs.Common.{ap}
use Rattle.host_memory.specs.Memory.{session_in}
use Rattle.host_session.specs.Names.{Session}
use Rattle.host_session.proofs.Walk.{pair_passes}
use Rattle.host_session.proofs.looked.Goals as goal

pub until-quiet-requires : goal.until-quiet-requires
until-quiet-requires c =
    let s : Session = session_in c.args.session.now in
    let hold = ap (λ (x : Session). x.hold) c.head-head.ensures in
    rw (c.holds.ensures, ← hold) (pair_passes s _ c.loop-pair.pair-index c.requires c.lines-pair-items.ensures c.loop-pair-test.true)
