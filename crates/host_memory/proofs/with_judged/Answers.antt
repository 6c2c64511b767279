-- `host_memory::with_judged`: the line's pair is stored, with another second row.
use Rattle.std.proofs.Common.{sym, ap, ◌∙◌}
use Rattle.host_memory.specs.Names.{Line}
use Rattle.host_memory.specs.Memory.{with_judged}
use Rattle.host_memory.proofs.Places.{line-is, line_stored}
use Rattle.host_memory.proofs.with_judged.Goals as goal

pub returns : goal.returns
returns c =
    let pairs = c.args.memory.now in
    let m = c.args.l.now in
    line_stored pairs c.args.place c.judge.new.pair _ c.requires
    (c.judge.ensures ∙ ap (λ (l : Line). with_judged l m.limits m.book m.holds) (sym (line-is pairs c.args.place c.told-memory c.requires)))
