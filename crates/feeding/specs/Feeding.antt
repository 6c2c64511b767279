-- A buffer of events fed to a session, and their answers as rows of numbers in a lent buffer.
use Rattle.std.specs.Prelude.{◌≡◌, cond, List, ℕ, ◌≤◌, ltb, ℤ, length, Ok}
use Rattle.method.specs.words.Ranges.{most_shifts}
use Rattle.method.specs.declared.Row.{Row}
use Rattle.method.specs.told.Rows.{rows_of_all, numbers_of}
use Rattle.method.specs.told.Program.{events_of}
use Rattle.method.specs.computed.Search.{run, finally}
use Rattle.rows.specs.Buffer.{written, needed}
use Rattle.corridor.specs.declared.Session.{Session}
use Rattle.rows.specs.Answer.{RowsAnswer, no_room}
use Rattle.corridor.specs.View.{view, put, Valid}
use Rattle.corridor.specs.Engine.{one_by_one, left_after}

-- the room for the answers to so many bytes: beside a row for each event one for each shift that a session may make
abbrev pub feed_needs : ℕ → ℕ
feed_needs size = needed size most_shifts

-- the rows that a session tells for the bytes b, the same in numbers, and the session that they leave
abbrev pub rows_for : Session → List ℕ → List Row
rows_for s b = rows_of_all (run (view s) (events_of b))

abbrev pub told : Session → List ℕ → List ℤ
told s b = numbers_of (rows_for s b)

abbrev pub left_by : Session → List ℕ → Session
left_by s b = put s (finally (view s) (events_of b))

-- what is answered for the bytes b and a buffer of so many numbers: how many are told, or the room that is not there
unfoldable pub fed_answer : Session → ℕ → List ℕ → RowsAnswer
fed_answer s size b = cond (ltb size (feed_needs (length b))) (no_room (feed_needs (length b))) (Ok (length (told s b)))

-- the session then
unfoldable pub fed_session : Session → ℕ → List ℕ → Session
fed_session s size b = cond (ltb size (feed_needs (length b))) s (left_by s b)

-- what the buffer holds then
unfoldable pub fed_into : Session → List ℤ → List ℕ → List ℤ
fed_into s out b = cond (ltb (length out) (feed_needs (length b))) out (written out 0 (told s b))

-- Whatever a valid session tells for the bytes b, the room for them is enough. [told_fits, in proofs/Chunks]
abbrev pub ToldFits : Type 0
ToldFits = (s : Session) (b : List ℕ) → Valid s → length (told s b) ≤ feed_needs (length b)

-- From a valid session `feed` leaves a valid one, whatever buffer is lent, and where its room is too little too. [valid_feed, in
-- proofs/Chunks]
abbrev pub FeedValid : Type 0
FeedValid = (s : Session) (size : ℕ) (b : List ℕ) → Valid s → Valid (fed_session s size b)

-- Handing a buffer to `event` piece by piece is feeding it: the same numbers, and the same session. [feeding_is_the_same, in
-- proofs/Chunks]
abbrev pub FeedingIsTheSame : Type 0
FeedingIsTheSame =
    (s : Session) (b : List ℕ) → Valid s
    → (numbers_of (rows_of_all (one_by_one s (events_of b))) ≡ told s b) × (left_after s (events_of b) ≡ left_by s b)
