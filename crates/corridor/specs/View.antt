-- A session is an array of 32 rows with a count; the method speaks of a list of exactly the table's lines. `view` reads the one as the
-- other, `put` writes a state back, and the contracts of this crate are equations through them.
use Rattle.std.specs.Prelude.{◌≡◌, List, ◌++◌, ℕ, ◌≤◌, length, set, take, drop, replicate, Result, Ok, Err}
use Rattle.method.specs.words.Types.{State, blank, seconds, millionths, session_ids}
use Rattle.method.specs.words.Ranges.{most_contracts}
use Rattle.method.specs.words.Tables.{Opening, opened, refused}
use Rattle.method.specs.computed.Head.{with_lines}
use Rattle.method.specs.computed.Rooms.{Sane}
use Rattle.method.specs.computed.Sound.{Sound, Distinct}
use Rattle.corridor.specs.Names.{Seconds, Line, TableRefusal}
use Rattle.corridor.specs.declared.Session.{Session}

-- ---- the head, all that stands beside the lines, is written out in `view`, `with_head` and `no_session`, and nowhere else in this crate's
-- definitions
-- the first `count` rows, as the method's lines
abbrev pub view : Session → State
view s = record { lines = take s.count s.lines; clock = s.clock; end = s.end; hold = s.hold; left = s.left; near = s.near }

-- the head of a state, beside rows of which the first n are in use
abbrev pub with_head : State → ℕ → List Line → Session
with_head x n ls = record { lines = ls; count = n; clock = x.clock; end = x.end; hold = x.hold; left = x.left; near = x.near }

-- a state's lines written over the first places, and all places after them as they were
abbrev pub put : Session → State → Session
put s x = with_head x (length x.lines) (x.lines ++ drop (length x.lines) s.lines)

-- ---- a session with other rows and another clock
abbrev pub moved_on : Session → List Line → Seconds → Session
moved_on s ls t = with_head (with_lines (view s) ls s.left t) s.count ls

-- with another line at a place
abbrev pub with_line : Session → ℕ → Line → Session
with_line s place l = moved_on s (set s.lines place l) s.clock

-- ---- what a table opens
-- no lines, and every number 0; no session has hold seconds 0, so that this is not `Valid`
abbrev pub no_session : Session
no_session =
    record {
      lines = replicate 32 blank;
      count = 0;
      clock = seconds 0;
      end = seconds 0;
      hold = seconds 0;
      left = 0;
      near = millionths 0;
    }

unfoldable pub opened_session : Opening → Result Session TableRefusal
opened_session (opened x) = Ok (put no_session x)
opened_session (refused why line) = Err (record { reason = why; line = line })

-- what memory holds in which a table was to be opened: the session, or none
unfoldable pub left_by_open : Opening → Session
left_by_open (opened x) = put no_session x
left_by_open (refused why line) = no_session

-- The array's length and the ranges of a session's numbers: what one shift asks, and keeps.
pub record Ranged (s : Session) : Type 0 where
  pub full : length s.lines ≡ 32
  pub few : s.count ≤ most_contracts
  pub sane : Sane (view s)

-- What every function of a session asks, and every session has: the array's length, the ranges of its numbers, that holds stand exactly where
-- there is pressure and none is left to serve up to the clock, and that no id stands twice.
pub record Valid (s : Session) : Type 0 where
  pub full : length s.lines ≡ 32
  pub few : s.count ≤ most_contracts
  pub sane : Sane (view s)
  pub sound : Sound (view s)
  pub distinct : Distinct (session_ids (view s))
