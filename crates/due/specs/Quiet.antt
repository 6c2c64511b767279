-- A second before which no hold falls due.
use Rattle.std.specs.Prelude.{cond, List, [], ◌∷◌, ◌+◌, ltb, None, Some}
use Rattle.method.specs.words.Types.{Seconds, Hold, seconds}
use Rattle.method.specs.declared.Holds.{Holds}
use Rattle.method.specs.declared.Line.{Line}

-- the second q, or the one at which the hold falls due, whichever comes first
unfoldable pub nearer : Seconds → Seconds → Hold → Seconds
nearer q wait None = q
nearer q wait (Some start) = cond (ltb (start.0 + wait.0) q.0) (seconds (start.0 + wait.0)) q

abbrev pub until : Seconds → Seconds → Holds → Seconds
until q wait h = nearer (nearer q wait h.up) wait h.down

-- and once these lines have been passed
unfoldable pub until_all : Seconds → Seconds → List Line → Seconds
until_all q wait [] = q
until_all q wait (l ∷ ls) = until_all (until q wait l.holds) wait ls
