-- The lines are copied over the first places of 32 blank ones, so that the session is the one that the method's state makes.
use Rattle.std.proofs.Common.{◌≡◌, ◌∙◌, Err, rules}
use Rattle.corridor.proofs.Opening.{opens, opens_none}
use Rattle.corridor.proofs.open.Goals as goal

pub returns-in_err-opened : goal.returns-in_err-opened
returns-in_err-opened c =
    let said : c.from_residual.result ≡ Err c.in_err-opened.field-0.0 = search rules in
    said ∙ opens_none c.args.bytes.now c.in_err-opened.ensures

pub returns : goal.returns
returns c =
    rw (c.copy_from_slice.ensures.after, c.deref.ensures.0, c.len-count.ensures.value)
    (opens c.args.bytes.now c.in_ok-opened.opened c.default-lines.result (search rules) c.in_ok-opened.ensures)
