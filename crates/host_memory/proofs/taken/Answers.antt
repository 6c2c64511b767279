-- `host_memory::taken`: all lines are read, and the head stands beside them.
use Rattle.std.proofs.Common.{rules, List, sym, ap, ◌∙◌}
use Rattle.host_memory.specs.Names.{Line}
use Rattle.host_memory.specs.Memory.{session_of}
use Rattle.host_memory.proofs.AllLines.{lines_read}
use Rattle.host_memory.proofs.taken.Goals as goal

pub returns : goal.returns
returns c =
    ap (λ (ls : List Line). session_of ls c.head-head.result)
    (lines_read c.args.memory.now _ _ (λ i l q h. search rules) c.from_fn.result c.told-memory c.from_fn.ensures.items)
    ∙ sym c.head-head.ensures
