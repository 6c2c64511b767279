-- The engine as a host sees it: a session that is opened or taken from a snapshot, and handed from event to event. Rules 2 and 3 speak of the
-- answers that the method's words admit and of the state that these leave; the engine's answers are these, and its session shows that state.
-- The name in brackets is the theorem, in proofs/Engine.
use Rattle.std.specs.Prelude.{◌≡◌, List, [], ◌∷◌, ℕ, Result, Ok, Err, IsOkAnd}
use Rattle.method.specs.words.Types.{State}
use Rattle.method.specs.words.Tables.{opened, TableAnswered}
use Rattle.method.specs.words.Sessions.{Answer, accepted, refused, AnswersInWords}
use Rattle.method.specs.computed.Table.{opening}
use Rattle.method.specs.computed.Event.{read}
use Rattle.method.specs.computed.Search.{answer, run, finally}
use Rattle.method.specs.computed.Sound.{Proper}
use Rattle.corridor.specs.Names.{EventReason}
use Rattle.corridor.specs.declared.Session.{Session}
use Rattle.corridor.specs.View.{view, put, opened_session, Valid}
use Rattle.corridor.specs.Reply.{Shifts, shifts_told, left_of}

-- what `event` promises of a session and a byte string: the answer, and the session that is left
abbrev pub reply_to : Session → List ℕ → Result Shifts EventReason
reply_to s b = shifts_told (answer (view s) (read b))

abbrev pub session_after : Session → List ℕ → Session
session_after s b = left_of s (read b) (answer (view s) (read b))

-- an answer with its shift lines, as the method has it
abbrev pub answer_in : Result Shifts EventReason → Answer
answer_in (Ok cs) = accepted cs.items
answer_in (Err why) = refused why

-- each byte string is handed to the session that the one before it left
unfoldable pub one_by_one : Session → List (List ℕ) → List Answer
one_by_one s [] = []
one_by_one s (b ∷ bs) = answer_in (reply_to s b) ∷ one_by_one (session_after s b) bs

unfoldable pub left_after : Session → List (List ℕ) → Session
left_after s [] = s
left_after s (b ∷ bs) = left_after (session_after s b) bs

-- The session of an accepted table shows the state in which the method opens it. [opens_as]
abbrev pub OpensAs : Type 0
OpensAs = (table : List ℕ) (o : State) → TableAnswered table (opened o) → IsOkAnd (opened_session (opening table)) (λ s. view s ≡ o)

-- A valid session, wherever it comes from, shows a proper state, so that rule 2 holds of it (`rule2_kept`). [valid_proper]
abbrev pub ValidProper : Type 0
ValidProper = (s : Session) → Valid s → Proper (view s)

-- what is handed out for the byte strings bs is what the method's search finds
pub record RunFrom (s : Session) (bs : List (List ℕ)) : Type 0 where
  pub answers : one_by_one s bs ≡ run (view s) bs
  pub session : left_after s bs ≡ put s (finally (view s) bs)

-- From any valid session, wherever it comes from, the answers to any byte strings are those that the method finds from the state that the
-- session shows, and the session left is the first one with the method's last state in it. [engine_runs]
abbrev pub EngineRuns : Type 0
EngineRuns = (s : Session) (bs : List (List ℕ)) → Valid s → RunFrom s bs

-- the answers to bs are the method's, the session left shows the state that they leave, and it is valid again
pub record RightFrom (s : Session) (bs : List (List ℕ)) : Type 0 where
  pub answers : AnswersInWords (view s) bs (one_by_one s bs) (view (left_after s bs))
  pub valid : Valid (left_after s bs)

-- From any valid session, an accepted table's or a snapshot's, and for any byte strings. [engine_is_right]
abbrev pub EngineIsRight : Type 0
EngineIsRight = (s : Session) (bs : List (List ℕ)) → Valid s → RightFrom s bs
