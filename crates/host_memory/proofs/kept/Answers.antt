-- `host_memory::kept`: the head is stored, and all lines stand before it.
use Rattle.std.proofs.Common.{List, arith, sym, ap, ◌∙◌}
use Rattle.corridor.specs.View.{moved_on}
use Rattle.host_memory.specs.Names.{Line}
use Rattle.host_memory.proofs.AllLines.{all_lines}
use Rattle.host_memory.proofs.Places.{head_stored}
use Rattle.host_memory.proofs.kept.Goals as goal

pub returns : goal.returns
returns c =
    let s = c.args.s.now in
    head_stored c.loop-place.memory _ c.loop-place.invariant.pairs c.head_row-head.ensures
    ∙ ap (λ (ls : List Line). moved_on s ls s.clock)
    (sym (all_lines c.loop-place.memory s.lines c.loop-place.place (omega arith) c.loop-place.invariant.full (sym c.loop-place.invariant.so_far)))
