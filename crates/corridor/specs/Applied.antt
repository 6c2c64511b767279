-- What an event that is taken changes in a session, once its due holds are served: the line of a quote, and the clock.
use Rattle.std.specs.Prelude.{List, ◌<◌, get_or, set, Option, None, Some}
use Rattle.method.specs.words.Types.{blank}
use Rattle.method.specs.computed.Event.{with_book, quoted_line}
use Rattle.verdict.specs.declared.PlacedQuote.{PlacedQuote}
use Rattle.verdict.specs.declared.Taken.{Taken}
use Rattle.pressure.specs.Asks.{JudgeableLine}
use Rattle.corridor.specs.Names.{Line}
use Rattle.corridor.specs.declared.Session.{Session}
use Rattle.corridor.specs.View.{moved_on}

abbrev pub lines_after : Session → Option PlacedQuote → List Line
lines_after s None = s.lines
lines_after s (Some p) = set s.lines p.place (quoted_line s.near s.left p.quote (get_or s.lines p.place blank))

abbrev pub applied_to : Session → Taken → Session
applied_to s v = moved_on s (lines_after s v.change) v.time

-- what a quote asks of its line
abbrev pub Applies : Session → Option PlacedQuote → Type 0
Applies s None = Unit {0}
Applies s (Some p) = (p.place < 32) × JudgeableLine s.near (with_book (get_or s.lines p.place blank) p.quote.bid p.quote.ask)
