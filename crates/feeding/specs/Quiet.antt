-- A second before which no hold falls due, so that nothing has to be searched for before it.
use Rattle.method.specs.words.Types.{State, seconds}
use Rattle.due.specs.Quiet.{until_all}
use Rattle.feeding.specs.Names.{Seconds}

-- that of the hold that goes first; where none stands, one that no event reaches
abbrev pub quiet_until : State → Seconds
quiet_until s = until_all (seconds 4_294_967_295) s.hold s.lines
