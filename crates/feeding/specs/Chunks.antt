-- Events that come in chunks, one buffer after another. Each buffer counts its events from 1, so the places of refused events have to be counted on
-- from chunk to chunk before what is told can be held against one buffer.
use Rattle.std.specs.Prelude.{◌≡◌, List, [], ◌∷◌, ◌++◌, map, ℕ, ◌+◌, ◌*◌, ◌%◌, ◌≤◌, ℤ, length}
use Rattle.method.specs.declared.Row.{Row}
use Rattle.method.specs.told.Rows.{numbers_of}
use Rattle.method.specs.told.Program.{events_of}
use Rattle.corridor.specs.declared.Session.{Session}
use Rattle.corridor.specs.View.{Valid}
use Rattle.rows.specs.Buffer.{written}
use Rattle.feeding.specs.Feeding.{feed_needs, rows_for, told, left_by, fed_session, fed_into}

-- all bytes, one chunk after another
abbrev pub all_bytes : List (List ℕ) → List ℕ
all_bytes [] = []
all_bytes (c ∷ cs) = c ++ all_bytes cs

-- only the last chunk may end in a cut event
abbrev pub WholeButLast : List (List ℕ) → Type 0
WholeButLast [] = Unit {0}
WholeButLast (c ∷ []) = Unit {0}
WholeButLast (c ∷ d ∷ cs) = (length c % 20 ≡ 0) × WholeButLast (d ∷ cs)

-- a row with the place of a refused event raised by k; any other row as it is
abbrev pub raised : ℕ → Row → Row
raised k (Row.Shift c) = Row.Shift c
raised k (Row.RefusedEvent why place) = Row.RefusedEvent why (k + place)
raised k (Row.RefusedTable why line) = Row.RefusedTable why line
raised k (Row.Closed c) = Row.Closed c

-- the rows of what comes behind the bytes b, raised by the events of b
abbrev pub behind : List ℕ → List Row → List Row
behind b rows = map (raised (length (events_of b))) rows

-- the rows that are told for each chunk in turn, and the same in numbers
unfoldable pub rows_in : Session → List (List ℕ) → List Row
rows_in s [] = []
rows_in s (c ∷ cs) = rows_for s c ++ rows_in (left_by s c) cs

abbrev pub told_in : Session → List (List ℕ) → List ℤ
told_in s cs = numbers_of (rows_in s cs)

-- the same rows, counted on from chunk to chunk
unfoldable pub counted_on : Session → List (List ℕ) → List Row
counted_on s [] = []
counted_on s (c ∷ cs) = rows_for s c ++ behind c (counted_on (left_by s c) cs)

-- the session that all chunks leave
unfoldable pub left_in : Session → List (List ℕ) → Session
left_in s [] = s
left_in s (c ∷ cs) = left_in (left_by s c) cs

-- what all chunks come to, and all bytes at once
pub record AsOne (s : Session) (cs : List (List ℕ)) : Type 0 where
  pub rows : counted_on s cs ≡ rows_for s (all_bytes cs)
  pub session : left_in s cs ≡ left_by s (all_bytes cs)

-- From any valid session, and for any chunks that are cut between two events: where they are cut makes no difference. The rows that are told,
-- counted on, are those of one buffer with all bytes, and so are their numbers and the session that is left. [one-buffer, in proofs/Joined]
abbrev pub OneBuffer : Type 0
OneBuffer = (s : Session) (cs : List (List ℕ)) → Valid s → WholeButLast cs → AsOne s cs

-- ---- two buffers that are fed one after the other, where each has its room
-- xs and then ys, against both at once: the session; the numbers, those of ys behind those of xs; and the lent buffer, with those of ys written
-- behind what xs left in it
pub record FedOn (s : Session) (xs ys : List ℕ) : Type 0 where
  pub session : (m n p : ℕ) → feed_needs (length xs) ≤ m → feed_needs (length ys) ≤ n → feed_needs (length (xs ++ ys)) ≤ p
      → fed_session (fed_session s m xs) n ys ≡ fed_session s p (xs ++ ys)
  pub numbers : told s (xs ++ ys) ≡ told s xs ++ numbers_of (behind xs (rows_for (left_by s xs) ys))
  pub buffer : (out : List ℤ) → feed_needs (length xs) ≤ length out → feed_needs (length (xs ++ ys)) ≤ length out
      → fed_into s out (xs ++ ys) ≡ written (fed_into s out xs) (length (told s xs)) (numbers_of (behind xs (rows_for (left_by s xs) ys)))

-- From any valid session, for whole events xs and any bytes ys: feeding xs and then ys leaves the same session as feeding both at once, and
-- tells the same numbers in the same places, once the rows of ys are raised by the events of xs. [feed_on, in proofs/Chunks]
abbrev pub FeedOn : Type 0
FeedOn = (s : Session) (xs ys : List ℕ) (k : ℕ) → length xs ≡ 20 * k → Valid s → FedOn s xs ys
