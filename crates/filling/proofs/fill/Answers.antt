-- What a read gave is joined to what stood in the slice before it.
use Rattle.std.proofs.Common.{◌-◌, length, sym, subst, rules}
use Rattle.std.specs.Io.KnownBytes.{Consumes}
use Rattle.std.proofs.KnownBytes.{Consumes-trans}
use Rattle.filling.proofs.Taken.{taken_on}
use Rattle.filling.proofs.fill.Goals as goal

pub loop-done-preserved : goal.loop-done-preserved
loop-done-preserved g c =
    let at = c.loop-done.done in
    let room = c.loop-done.room in
    let held = c.loop-done.invariant in
    let same = taken_on at (length room - at) c.in_ok-got.got room c.read.new.buf held.0 c.in_ok-got.ensures.bound.0 in
    (search rules, subst (Consumes _ _) (sym same) (Consumes-trans _ _ _ _ _ held.1 c.in_ok-got.ensures.bytes.0))
