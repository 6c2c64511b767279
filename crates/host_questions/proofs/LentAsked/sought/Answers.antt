-- The first of the lines in use that has the id is the line of the id.
use Rattle.std.proofs.Common.{rules, tests, eqb, sym, ◌∙◌}
use Rattle.std.proofs.lemmas.Iterator.{YieldsList-from_slice, YieldsList-from_map}
use Rattle.std.proofs.lemmas.Iterator.Search.{find_from_yields_List}
use Rattle.std.proofs.lemmas.Iterator.Adapters.{option_map_id}
use Rattle.corridor.specs.View.{view}
use Rattle.questions.proofs.Asking.{find_sought}
use Rattle.host_row.specs.Packed.{line_in}
use Rattle.host_memory.specs.Memory.{session_in}
use Rattle.host_questions.proofs.LentAsked.sought.Goals as goal

pub returns : goal.returns
returns c =
    let s = session_in c.args.self.now.0.now in
    sym (option_map_id c.find.result)
    ∙ find_from_yields_List (λ l. eqb l.terms.id c.args.id) _ _ _ c.find.ensures.ran
    (YieldsList-from_map _ line_in (YieldsList-from_slice c.lines.result.now cc) c.map.ensures.closure (λ x r q k. search rules))
    (λ x b q k. search (rules, tests))
    ∙ rw c.lines.ensures (find_sought c.args.id (view s))
