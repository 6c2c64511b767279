-- The session by default is the one that is none.
use Rattle.std.proofs.Common.{◌≡◌, sym, ◌∙◌, rules, arith, replicate, get_or, ◌<◌}
use Rattle.std.proofs.lemmas.List.{same_lists, length-replicate, get_or-replicate}
use Rattle.method.specs.words.Types.{blank}
use Rattle.host_session.proofs.none.Goals as goal

pub returns : goal.returns
returns c =
    let z = c.default.result in
    let d = c.default.ensures in
    let lines : z.lines ≡ replicate 32 blank = same_lists z.lines (replicate 32 blank) (d.0.long ∙ sym (length-replicate 32 blank))
    (λ k e h. let inside : k < 32 = omega (arith, d.0.long) in
    let here = d.0.at k e inside in
    let own : get_or z.lines k e ≡ blank = search rules in own ∙ sym (get_or-replicate 32 k blank e inside)) in
    search rules
