-- `host_intact::sound`: the three tests together say what every session has, and every session passes each.
use Rattle.std.proofs.Common.{sym, ◌∙◌}
use Rattle.numbers.proofs.Deciding.{granted, refused, decides_same}
use Rattle.host_memory.proofs.Places.{full_in}
use Rattle.host_intact.proofs.Whole.{valid-so, valid_beside, valid-lines, valid_together}
use Rattle.host_intact.proofs.sound.Goals as goal
use Rattle.host_intact.proofs.sound.Goals.{then-beside, else-beside}

pub returns-then-lines : goal.returns-then-lines
returns-then-lines c =
    elim c.if-beside.branch [
      | then-beside w ↦
          decides_same c.together.result
          (valid-so (full_in _ c.told-session) (granted c.beside.ensures w.if-beside.true) (granted w.lines.ensures (sym w.value-is ∙ c.if-lines.true)))
          valid_together c.together.ensures
      | else-beside w ↦ absurd (cc)
    ]

pub returns-else-lines : goal.returns-else-lines
returns-else-lines c =
    rw c.if-lines.false
    (λ v.
    elim c.if-beside.branch [
      | then-beside w ↦ refused w.lines.ensures (sym w.value-is ∙ c.if-lines.false) (valid-lines v)
      | else-beside w ↦ refused c.beside.ensures w.if-beside.false (valid_beside v)
    ])
