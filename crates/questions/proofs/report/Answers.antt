-- The line that was found has room for the shifts that are left, as each line of the session has.
use Rattle.std.proofs.Common.{sym, ◌∙◌}
use Rattle.corridor.specs.View.{view}
use Rattle.questions.proofs.Asking.{sought-room}
use Rattle.questions.proofs.report.Goals as goal

pub told-requires : goal.told-requires
told-requires g c =
    let v = c.requires.sane in
    let found = sym c.in_ok-l.ensures.ok_part ∙ c.sought.ensures in
    (v.hold.most, sought-room c.args.id (view (g.S.Asked.session c.args.s.now)) c.in_ok-l.l v found)
