-- Holds: which one goes first, what is left to serve, and what becomes of a hold (METHOD 14 to 17).
use Rattle.std.specs.Prelude.{Bool, true, false, ◌≡◌, ℕ, ◌+◌, ◌≤◌, ◌<◌, get_or, None, Some}
use Rattle.method.specs.words.Types.{Seconds, Side, Up, Down, Hold, Holds, ShiftLine, Due, State, blank}

-- the hold of a side, of a line's and of the line at a place of the table, from 0 (METHOD 14.1)
abbrev pub hold_of : Side → Holds → Hold
hold_of Up h = h.up
hold_of Down h = h.down

abbrev pub hold_at : Side → State → ℕ → Hold
hold_at side s place = hold_of side (get_or s.lines place blank).holds

-- a hold that stands, and when it is due (METHOD 14.6)
pub record Stands (s : State) (x : Due) : Type 0 where
  pub start : Seconds
  pub held : hold_at x.side s x.place ≡ Some start
  pub due : x.second.0 ≡ start.0 + s.hold.0

-- of two holds, the one that goes first (METHOD 15.2)
pub data Ahead (x y : Due) : Type 0 where
  earlier : x.second.0 < y.second.0 → Ahead x y
  up_first : x.second.0 ≡ y.second.0 → x.side ≡ Up → y.side ≡ Down → Ahead x y
  lowest : x.second.0 ≡ y.second.0 → x.side ≡ y.side → x.place ≤ y.place → Ahead x y

abbrev pub due_at : ShiftLine → ℕ → Due
due_at c place = record { second = c.second; side = c.side; place = place }

-- c is the shift line of the hold that goes first of all that stand, and that hold is due by t and before session end (METHOD 15.1, 15.2, 15.3,
-- 17.1). That shifts are left is in the step itself (`ShiftedTo`); in a session no hold stands where none is left (`Life`).
pub record First (t : Seconds) (s : State) (c : ShiftLine) : Type 0 where
  pub place : ℕ
  pub stands : Stands s (due_at c place)
  pub ahead : (x : Due) → Stands s x → Ahead (due_at c place) x
  pub in_time : c.second.0 ≤ t.0
  pub before_end : c.second.0 < s.end.0
  pub named : c.id ≡ (get_or s.lines place blank).terms.id

-- no hold is left to serve up to t (METHOD 15.5, 17.1)
unfoldable pub Done : Seconds → State → Type 0
Done t s = (x : Due) → Stands s x → x.second.0 < s.end.0 → t.0 < x.second.0

-- ---- the life of a hold, from `old` to `new` at second `now`, where `left` shifts are left
-- It comes and goes with pressure, keeps its start while that lasts, and there is none once no shift is left (METHOD 14.2, 14.5, 18.2).
pub record Life (left : ℕ) (now : Seconds) (pressed : Bool) (old new : Hold) : Type 0 where
  pub none_left : left ≡ 0 → new ≡ None
  pub ends : pressed ≡ false → new ≡ None
  pub starts : 0 < left → pressed ≡ true → old ≡ None → new ≡ Some now
  pub goes_on : (start : Seconds) → 0 < left → pressed ≡ true → old ≡ Some start → new ≡ Some start

-- what a shift of a side leaves of a hold of a side (METHOD 16.4, 16.5)
abbrev pub remaining : Side → Side → Hold → Hold
remaining Up Up h = None
remaining Up Down h = h
remaining Down Up h = h
remaining Down Down h = None
