-- The row's line is what its numbers say.
use Rattle.method.specs.declared.Row.TheVariants as Row
use Rattle.session.proofs.Texts.{said-line}
use Rattle.session.proofs.answers.refusal.Goals as goal

pub returns : goal.returns
returns c = said-line (Row.RefusedTable c.args.refused.reason c.args.refused.line) c.row_numbers.ensures c.line.ensures.put
