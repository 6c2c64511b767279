-- What a session hands out for an event, and the session that is left.
use Rattle.std.specs.Prelude.{List, Result, Ok, Err}
use Rattle.arrayvec.specs.ArrayVec.{ArrayVec}
use Rattle.method.specs.words.Sessions.{Answer, accepted, refused}
use Rattle.method.specs.computed.Shift.{after}
use Rattle.method.specs.computed.Event.{next}
use Rattle.corridor.specs.Names.{ShiftLine, ReadEvent, EventReason}
use Rattle.corridor.specs.declared.Session.{Session}
use Rattle.corridor.specs.View.{view, put}

-- the shift lines that are made, in their order
abbrev pub Shifts : Type 0
Shifts = ArrayVec ShiftLine

-- the session after the shifts of cs
abbrev pub served_as : Session → List ShiftLine → Session
served_as s cs = put s (after cs (view s))

-- the answer to an event, as the code hands it out
unfoldable pub shifts_told : Answer → Result Shifts EventReason
shifts_told (accepted cs) = Ok (record { items = cs })
shifts_told (refused why) = Err why

-- the session that the answer to the event e leaves: where it is refused, the one that was given
unfoldable pub left_of : Session → ReadEvent → Answer → Session
left_of s e (accepted cs) = put s (next (view s) e (accepted cs))
left_of s e (refused why) = s
