-- Two sites (METHOD 26.7): from one session, the events of one and of the other are the same, less refused ones and less some that tell
-- nothing new. Handed to `event`, fed in one buffer, or in chunk after chunk, they leave one session, and the same shift lines in the same
-- order. The name in brackets is the theorem, in proofs/Sites.
use Rattle.std.specs.Prelude.{◌≡◌, cond, List, [], ◌++◌, map, ℕ, zero, suc, ◌/◌, ◌≤◌, ℤ, pos, length, get_or, take, drop, Ok}
use Rattle.numbers.specs.Tests.{same}
use Rattle.method.specs.declared.Row.TheVariants as Row
use Rattle.method.specs.words.Sessions.{Answer, joined}
use Rattle.method.specs.laws.Ticks.{Alike}
use Rattle.method.specs.told.Rows.{rows_of_all, numbers_of}
use Rattle.method.specs.told.Program.{events_of}
use Rattle.corridor.specs.declared.Session.{Session}
use Rattle.rows.specs.Answer.{RowsAnswer}
use Rattle.corridor.specs.View.{view, Valid}
use Rattle.feeding.specs.Feeding.{feed_needs, fed_answer, fed_session, fed_into}
use Rattle.feeding.specs.Chunks.{all_bytes, WholeButLast, told_in, left_in}
use Rattle.corridor.specs.Engine.{one_by_one, left_after}

-- ---- handed to `event`, one after another
pub record HandedAlike (s : Session) (bs ds : List (List ℕ)) : Type 0 where
  pub lines : joined (one_by_one s bs) ≡ joined (one_by_one s ds)
  pub session : left_after s bs ≡ left_after s ds

-- (events_alike)
abbrev pub EventsAlike : Type 0
EventsAlike = (s : Session) (bs ds : List (List ℕ)) → Valid s → Alike (view s) bs ds → HandedAlike s bs ds

-- ---- the rows of shifts, which begin with 1, among n rows of six numbers; those of refused events are passed over
unfoldable pub shifts_among : ℕ → List ℤ → List ℤ
shifts_among zero ns = []
shifts_among (suc n) ns = cond (same (get_or ns 0 (pos 0)) (pos 1)) (take 6 ns) [] ++ shifts_among n (drop 6 ns)

abbrev pub only_shifts : List ℤ → List ℤ
only_shifts ns = shifts_among (length ns / 6) ns

-- of the rows of any answers, they are the joined shift lines (only_shifts_are_lines)
abbrev pub OnlyShiftsAreLines : Type 0
OnlyShiftsAreLines = (rs : List Answer) → only_shifts (numbers_of (rows_of_all rs)) ≡ numbers_of (map Row.Shift (joined rs))

-- ---- fed in one buffer
-- r is answered by `feed` for the bytes b, with room for the rows, x is the session then, and `now` stands in the lent buffer
pub record FedWith (s : Session) (b : List ℕ) (out : List ℤ) (r : RowsAnswer) (x : Session) (now : List ℤ) : Type 0 where
  pub enough : feed_needs (length b) ≤ length out
  pub answered : r ≡ fed_answer s (length out) b
  pub left : x ≡ fed_session s (length out) b
  pub buffer : now ≡ fed_into s out b

-- ns is what is told: as many numbers as the answer says, from the front of the buffer
pub record ToldBy (r : RowsAnswer) (now ns : List ℤ) : Type 0 where
  pub counted : r ≡ Ok (length ns)
  pub written : take (length ns) now ≡ ns

pub record FedAlike (r : RowsAnswer) (x : Session) (now : List ℤ) (q : RowsAnswer) (y : Session) (then : List ℤ) : Type 0 where
  pub one : List ℤ
  pub other : List ℤ
  pub one_told : ToldBy r now one
  pub other_told : ToldBy q then other
  pub lines : only_shifts one ≡ only_shifts other
  pub session : x ≡ y

-- (buffers_alike)
abbrev pub BuffersAlike : Type 0
BuffersAlike =
    (s : Session) (b d : List ℕ) → Valid s → Alike (view s) (events_of b) (events_of d)
    → (out lent : List ℤ) (r q : RowsAnswer) (x y : Session) (now then : List ℤ) → FedWith s b out r x now → FedWith s d lent q y then
    → FedAlike r x now q y then

-- ---- fed in chunks, which are cut between two events; what is told for each is what `feed` writes for it where there is room
-- It comes to what the same events come to that are handed to `event`: so a site that feeds and one that hands over hold one session too.
pub record FedAsHanded (s : Session) (cs : List (List ℕ)) : Type 0 where
  pub lines : only_shifts (told_in s cs) ≡ numbers_of (map Row.Shift (joined (one_by_one s (events_of (all_bytes cs)))))
  pub session : left_in s cs ≡ left_after s (events_of (all_bytes cs))

-- (chunks_as_handed)
abbrev pub ChunksAsHanded : Type 0
ChunksAsHanded = (s : Session) (cs : List (List ℕ)) → Valid s → WholeButLast cs → FedAsHanded s cs

pub record ChunkedAlike (s : Session) (bs ds : List (List ℕ)) : Type 0 where
  pub lines : only_shifts (told_in s bs) ≡ only_shifts (told_in s ds)
  pub session : left_in s bs ≡ left_in s ds

-- (chunks_alike)
abbrev pub ChunksAlike : Type 0
ChunksAlike =
    (s : Session) (bs ds : List (List ℕ)) → Valid s → WholeButLast bs → WholeButLast ds
    → Alike (view s) (events_of (all_bytes bs)) (events_of (all_bytes ds)) → ChunkedAlike s bs ds
