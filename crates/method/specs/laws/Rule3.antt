-- What stands beside rule 3: that it speaks of all of rule 2's states, what the floor does, and that it leaves one line. The name in brackets is
-- the theorem, in proofs/Rule3.
use Rattle.std.specs.Prelude.{true, List, ◌++◌, ◌↔◌, ◌≡◌, ℕ}
use Rattle.method.specs.words.Types.{Line, ShiftLine, seconds, State}
use Rattle.method.specs.words.Wire.{word}
use Rattle.method.specs.words.Shifts.{Each}
use Rattle.method.specs.words.Sessions.{Serves, Follows, Answer, AnswersInWords, joined}
use Rattle.method.specs.words.Margins.{FloorMet, Outward}
use Rattle.method.specs.words.Rules.{EachLine, Moment}
use Rattle.method.specs.laws.Seen.{Shifted, StaysFrozen}

-- ---- the states of rule 2 are moments (METHOD 24.22)
-- the state after a list of answers, by their shift lines, (rule3_answers_lead)
abbrev pub AnswersLead : Type 0
AnswersLead = (s n : State) (bs : List (List ℕ)) (rs : List Answer) → AnswersInWords s bs rs n → Moment s (joined rs) n

-- and the state after the first shift lines of an answer, from which the rest of them lead to the state after it. (rule3_shifts_lead)
abbrev pub ShiftsLead : Type 0
ShiftsLead =
    (s m n : State) (b : List ℕ) (cs ds : List ShiftLine) → Follows s b (cs ++ ds) n → Serves (seconds (word b 0)) s cs m
    → Moment s cs m × Moment m ds n

-- ---- the floor (METHOD 24.25)
-- A lower limit is frozen exactly where the floor has acted. (rule3_frozen_tells)
abbrev pub FrozenTells : Type 0
FrozenTells = EachLine (λ u d o l. (l.limits.frozen ≡ true) ↔ FloorMet o l)

-- What is frozen at a moment is so at any later one, at one step. (rule3_frozen_for_good, of what a host has kept frozen_for_good)
abbrev pub FrozenForGood : (State → Type 0) → Type 0
FrozenForGood From =
    (o s r : State) (cs ds : List ShiftLine) → From o → Moment o cs s → Moment s ds r
    → Each StaysFrozen s.lines r.lines

-- ---- no limit further inside, as `NeverInward` says of what a table opens, also of what a host has kept (never_inward)
abbrev pub OnlyOutward : (State → Type 0) → Type 0
OnlyOutward From =
    (o s r : State) (cs ds : List ShiftLine) → From o → Moment o cs s → Moment s ds r
    → Each Outward s.lines r.lines

-- ---- all that rule 3 says of a line at once; `Centres`, `HalfWidthsGrow`, `UpperInside` and `LowerInside` are read off it (METHOD 24.26; rule3_lines)
abbrev pub LinesShifted : Type 0
LinesShifted = EachLine Shifted

-- It leaves one line: as many shifts of the same opening line give the same market and the same limits. (rule3_one_line)
abbrev pub OneLine : Type 0
OneLine = (u d : ℕ) (o l r : Line) → Shifted u d o l → Shifted u d o r → (l.market ≡ r.market) × (l.limits ≡ r.limits)
