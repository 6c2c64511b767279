-- The first of the lines in use that has the id is the line of the id.
use Rattle.std.proofs.Common.{rules, tests, eqb, ◌∙◌}
use Rattle.std.proofs.lemmas.Iterator.{YieldsList-from_slice}
use Rattle.std.proofs.lemmas.Iterator.Search.{find_from_yields_List}
use Rattle.corridor.specs.View.{view}
use Rattle.questions.proofs.Asking.{find_sought}
use Rattle.questions.proofs.SessionAsked.sought.Goals as goal

pub returns : goal.returns
returns c =
    let s = view c.args.self.now in
    c.copied.ensures
    ∙ find_from_yields_List (λ l. eqb l.terms.id c.args.id) _ _ _ c.find.ensures.ran (YieldsList-from_slice s.lines cc) (λ x b q k. search (rules, tests))
    ∙ find_sought c.args.id s
