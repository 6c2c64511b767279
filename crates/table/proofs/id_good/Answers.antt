-- The search goes over the ids of the lines.
use Rattle.std.proofs.Common.{◌≡◌, eqb, rules, ◌∙◌, arith}
use Rattle.std.proofs.lemmas.Iterator.{YieldsList-from_slice}
use Rattle.std.proofs.lemmas.Iterator.Search.{any_from_yields_List}
use borrow.Author.Tests.{tests, lt-ltb}
use Rattle.method.specs.told.Questions.{listed}
use Rattle.method.specs.computed.Opening.{id_good, ids}
use Rattle.table.specs.Names.{Line}
use Rattle.table.proofs.Ids.{any-listed}
use Rattle.table.proofs.id_good.Goals as goal

pub returns-then-id-ne0 : goal.returns-then-id-ne0
unfolding id_good
returns-then-id-ne0 c =
    let e : c.any.result ≡ listed c.args.id (ids c.args.lines.now) =
    any_from_yields_List (λ (l : Line). eqb l.terms.id c.args.id) _ _ c.any.result c.any.ensures.ran
    (YieldsList-from_slice c.args.lines.now c.iter.ensures.rest) (λ x b q k. search (rules, tests))
    ∙ any-listed c.args.id c.args.lines.now
    in
    rw (e, lt-ltb 0 c.args.id (omega arith))
