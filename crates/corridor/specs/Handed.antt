-- What is handed out: a valid session, but where a table is refused none; and what a refusal says. The name in brackets is the theorem, in
-- proofs/Theorems.
use Rattle.std.specs.Prelude.{◌≡◌, List, [], ◌∷◌, ℕ, pos, Result, Ok, Err}
use Rattle.method.specs.words.Tables.{Opening}
use Rattle.method.specs.words.Sessions.{refused}
use Rattle.method.specs.told.Refusals.{table_number, field_number, event_number, table_said, event_said}
use Rattle.method.specs.computed.Table.{opening}
use Rattle.method.specs.computed.Event.{read}
use Rattle.method.specs.computed.Search.{answer}
use Rattle.corridor.specs.Names.{TableRefusal, TableReason, EventReason}
use Rattle.corridor.specs.declared.Session.{Session}
use Rattle.corridor.specs.View.{view, opened_session, left_by_open, Valid}
use Rattle.corridor.specs.Engine.{reply_to, session_after}

-- what `open` promises of the bytes of a table
abbrev pub opened_by : List ℕ → Result Session TableRefusal
opened_by b = opened_session (opening b)

-- The session of a table that `open` accepts is valid, so that every function of a session takes it. [valid_open]
abbrev pub OpenValid : Type 0
OpenValid = (b : List ℕ) (s : Session) → opened_by b ≡ Ok s → Valid s

-- What memory holds after a refusal is not: no function takes it. [refused_opens_none]
abbrev pub RefusedOpensNone : Type 0
RefusedOpensNone = (b : List ℕ) (r : TableRefusal) → opened_by b ≡ Err r → Valid (left_by_open (opening b)) → ⊥

-- From a valid session `event` leaves a valid one, whatever the bytes are, and where they are refused too. [valid-event]
abbrev pub EventValid : Type 0
EventValid = (s : Session) (b : List ℕ) → Valid s → Valid (session_after s b)

-- A table that the method refuses is answered with the refusal's number, the line at fault, and the place of the field that it names. [open_says]
abbrev pub OpenSays : Type 0
OpenSays =
    (b : List ℕ) (why : TableReason) (line : ℕ) → opening b ≡ Opening.refused why line
    → table_said (opened_by b) ≡ record { number = table_number why; values = pos line ∷ pos (field_number why) ∷ [] }

-- An event that the method refuses is answered with the refusal's number. [event_says]
abbrev pub EventSays : Type 0
EventSays =
    (s : Session) (b : List ℕ) (why : EventReason) → answer (view s) (read b) ≡ refused why
    → event_said (reply_to s b) ≡ record { number = event_number why; values = [] }
