-- The line that a question is about.
use Rattle.questions.specs.Names.{Line}
use Rattle.method.specs.words.Types.{State}
use Rattle.method.specs.told.Questions.{known, line_of, demand}
use Rattle.std.specs.Prelude.{ℕ, Option, Some, None}

-- the line of an id
unfoldable pub sought : ℕ → State → Option Line
sought id s = demand (known id s) None (Some (line_of id s.lines))
