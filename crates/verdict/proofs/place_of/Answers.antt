-- The search tells the first place, and a guess that is right tells the same.
use Rattle.std.proofs.Common.{eqb, rules, tests, ◌∙◌}
use Rattle.std.proofs.lemmas.Iterator.{YieldsList-from_slice}
use Rattle.std.proofs.lemmas.Iterator.Search.{position_from_yields_List}
use Rattle.verdict.proofs.Finding.{found-position}
use Rattle.verdict.proofs.place_of.Goals as goal

pub returns-else-likely-ids : goal.returns-else-likely-ids
returns-else-likely-ids c =
    let ids = c.args.ids.now in
    position_from_yields_List (λ j. eqb j c.args.id) _ _ c.position.result c.position.ensures.ran (YieldsList-from_slice ids cc) (λ x b q k. search (rules, tests))
    ∙ found-position c.args.id ids
