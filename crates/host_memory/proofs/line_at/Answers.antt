-- `host_memory::line_at`: the line at a place is what its pair of rows has.
use Rattle.std.proofs.Common.{sym, ◌∙◌}
use Rattle.host_memory.proofs.Places.{line-is}
use Rattle.host_memory.proofs.line_at.Goals as goal

pub returns : goal.returns
returns c = c.line.ensures ∙ sym (line-is c.args.memory.now c.args.place c.told-memory c.requires)
