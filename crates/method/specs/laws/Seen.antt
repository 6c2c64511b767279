-- Words for what is seen along a session: where holds stand, who called for a shift, in which order, and an accepted event at once.
use Rattle.std.specs.Prelude.{Bool, true, ◌↔◌, ◌≡◌, ℕ, ◌+◌, ◌≤◌, ◌<◌, pos, get_or, length, None, Some}
use mathlib.Core.List.{List, [], ◌∷◌, Memᴰ}
use Rattle.method.specs.words.Types.{Seconds, Header, Side, Up, Down, Line, ShiftLine, Due, seconds, State, blank}
use Rattle.method.specs.words.Wire.{word}
use Rattle.method.specs.words.Ranges.{Every}
use Rattle.method.specs.words.Pressure.{presses}
use Rattle.method.specs.words.Holds.{hold_at}
use Rattle.method.specs.words.Books.{BookLife}
use Rattle.method.specs.words.Shifts.{Each, count, Centre, HalfWidths}
use Rattle.method.specs.words.Sessions.{SameTable, Follows}
use Rattle.method.specs.words.Margins.{margin, Lower}
use Rattle.method.specs.words.Rules.{AfterAny}

-- after any events an event b that is accepted: s is the state before it, cs are its shift lines, n is the state after it
abbrev pub AnyAccepted : (State → Type 0) → (State → List ℕ → List ShiftLine → State → Type 0) → Type 0
AnyAccepted From Q = AfterAny From (λ o from past told s. (b : List ℕ) (cs : List ShiftLine) (n : State) → Follows s b cs n → Q s b cs n)

-- ---- what the table fixed for the whole session
pub record Fixed (h : Header) (s : State) : Type 0 where
  pub end : s.end ≡ h.end
  pub hold : s.hold ≡ h.hold
  pub near : s.near ≡ h.near

-- whether the line at a place (from 0) presses on a side; past the last line none does
abbrev pub presses_at : Side → State → ℕ → Bool
presses_at side s place = presses side s.near (get_or s.lines place blank)

-- ---- where holds stand: exactly where a watched line presses and shifts are left, of every line on every side
abbrev pub HoldsExact : State → Type 0
HoldsExact s = (side : Side) (place : ℕ) → (hold_at side s place ≡ None → ⊥) ↔ ((0 < s.left) × (presses_at side s place ≡ true))

-- The hold that called for shift line c, in the state just before it: hold seconds old at the line's second, and first by METHOD 15.2. All holds
-- wait equally long, so that the one due earliest started earliest.
pub record Caller (s : State) (c : ShiftLine) : Type 0 where
  pub start : Seconds
  pub place : ℕ
  pub held : hold_at c.side s place ≡ Some start
  pub due : c.second.0 ≡ start.0 + s.hold.0
  pub named : c.id ≡ (get_or s.lines place blank).terms.id
  pub earliest : (side : Side) (n : ℕ) (began : Seconds) → hold_at side s n ≡ Some began → start.0 ≤ began.0
  pub up_before_down : c.side ≡ Down → (n : ℕ) → hold_at Up s n ≡ Some start → ⊥
  pub lowest_line : (n : ℕ) → hold_at c.side s n ≡ Some start → place ≤ n

-- Where its second lies: after the clock before the event, at or before the event's time t, before session end.
pub record Timely (clock t end : Seconds) (c : ShiftLine) : Type 0 where
  pub after_clock : clock.0 < c.second.0
  pub by_event : c.second.0 ≤ t.0
  pub before_end : c.second.0 < end.0

-- ---- order
-- of two shift lines, the one that comes before the other
pub data Precedes (c d : ShiftLine) : Type 0 where
  before : c.second.0 < d.second.0 → Precedes c d
  up_down : c.second.0 ≡ d.second.0 → c.side ≡ Up → d.side ≡ Down → Precedes c d

unfoldable pub Rising : List ShiftLine → Type 0
Rising [] = Unit {0}
Rising (c ∷ cs) = Every (Precedes c) cs × Rising cs

-- ---- no hold missed
-- A hold is answered by the shift lines cs: its side was shifted at its due second or before, or all shifts that were left were made by then.
pub data Answered (x : Due) (left : ℕ) (cs : List ShiftLine) : Type 0 where
  by_shift : (c : ShiftLine) → Memᴰ c cs → c.side ≡ x.side → c.second.0 ≤ x.second.0 → Answered x left cs
  all_made : length cs ≡ left → Every (λ c. c.second.0 ≤ x.second.0) cs → Answered x left cs

-- ---- all that rule 3 says of one line, and that what the table told of the contract stays
pub record Shifted (u d : ℕ) (o l : Line) : Type 0 where
  pub terms : l.terms ≡ o.terms
  pub centre : Centre u d o l
  pub halfs : HalfWidths (u + d) o l
  pub upper : margin Up l ≡ margin Up o
  pub lower : Lower o l

pub record StaysFrozen (o l : Line) : Type 0 where
  pub frozen : o.limits.frozen ≡ true → l.limits.frozen ≡ true
  pub lower : o.limits.frozen ≡ true → l.limits.lower.0 ≡ pos 1

-- ---- an accepted event at once: what its shift lines cs, counted, and itself make of the state
pub record AtOnce (s : State) (b : List ℕ) (cs : List ShiftLine) (n : State) : Type 0 where
  pub shifted : Each (Shifted (count Up cs) (count Down cs)) s.lines n.lines
  pub books : Each (BookLife b) s.lines n.lines
  pub left : length cs + n.left ≡ s.left
  pub clock : n.clock ≡ seconds (word b 0)
  pub table : SameTable s n
