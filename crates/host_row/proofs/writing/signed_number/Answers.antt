-- `host_row::writing::signed_number`: the number that is written reads back. Below zero by `below_back`, from zero on by `above_back`.
use borrow.Author.Rules.{rules}
use Rattle.numbers.proofs.Machine.{orders}
use Rattle.host_row.proofs.Numbers.{below_back, above_back}
use Rattle.host_row.proofs.writing.signed_number.Goals as goal

pub returns-then-z-lt0 : goal.returns-then-z-lt0
returns-then-z-lt0 c = below_back c.args.z.0 (search rules) (search (rules, orders))

pub returns-else-z-lt0 : goal.returns-else-z-lt0
returns-else-z-lt0 c = above_back c.args.z.0 (search rules) (search (rules, orders))
