-- What rule 2's words come to, of every session that begins in a state of which `From` holds: no shift is left out, late or made up, and they
-- come in order. What is late is counted from the start of a hold; that a hold starts with pressure and keeps its start is in the words (`Life`).
-- The name in brackets is the theorem, in proofs/Rule2.
use Rattle.std.specs.Prelude.{List, ◌∷◌, ◌++◌, ◌≡◌, ℕ, ◌+◌, ◌≤◌, ◌<◌, length, None}
use Rattle.method.specs.words.Types.{Seconds, Side, ShiftLine, Due, seconds, State, empty_book}
use Rattle.method.specs.words.Wire.{word}
use Rattle.method.specs.words.Layout.{header_of}
use Rattle.method.specs.words.Ranges.{most_shifts, Every}
use Rattle.method.specs.words.Holds.{Stands, Done, hold_at}
use Rattle.method.specs.words.Sessions.{Serves, Follows, Answer, AnswersInWords, joined}
use Rattle.method.specs.words.Rules.{ExactlyOne, Opens, AfterAny}
use Rattle.method.specs.laws.Seen.{AnyAccepted, Fixed, HoldsExact, Rising, Answered, AtOnce}
use Rattle.method.specs.laws.Stages.{CalledFor, Reported}

-- The words leave exactly one list of answers and one state, as `EverySession` says of what a table opens. (METHOD 24.7; rule2_one_session)
abbrev pub OneSession : (State → Type 0) → Type 0
OneSession From = (o : State) → From o → (bs : List (List ℕ)) → ExactlyOne (λ (r : List Answer × State). AnswersInWords o bs r.0 r.1)

-- An accepted event at once, its shifts counted as in rule 3: the lines, their books, the shifts left and the clock.
-- (METHOD 24.8, 24.9; rule2_at_once)
abbrev pub EventAtOnce : (State → Type 0) → Type 0
EventAtOnce From = AnyAccepted From AtOnce

-- ---- none left out, none late
-- After an accepted event no hold is left that is due at or before its time and before session end. (METHOD 24.10; rule2_nothing_left)
abbrev pub NothingLeft : (State → Type 0) → Type 0
NothingLeft From = AnyAccepted From (λ s b cs n. Done (seconds (word b 0)) n)

-- Every hold that stood before the event (cs is empty), or between its shift lines cs and ds, and was due at or before its time and before
-- session end, was answered by the lines that followed. (METHOD 24.11; rule2_none_missed)
abbrev pub NoneMissed : (State → Type 0) → Type 0
NoneMissed From =
    AfterAny From (λ o from past told s. (b : List ℕ) (cs ds : List ShiftLine) (m n : State) → Follows s b (cs ++ ds) n
    → Serves (seconds (word b 0)) s cs m → (x : Due) → Stands m x → x.second.0 ≤ word b 0 → x.second.0 < o.end.0 → Answered x m.left ds)

-- A hold stands exactly where a watched line presses and shifts are left: after any events, (METHOD 24.13; rule2_exact)
abbrev pub HoldsStandExactly : (State → Type 0) → Type 0
HoldsStandExactly From = AfterAny From (λ o from bs rs s. HoldsExact s)

-- and after any of the shifts of an event that follows them. (rule2_exact_between)
abbrev pub HoldsStandBetween : (State → Type 0) → Type 0
HoldsStandBetween From =
    AfterAny From (λ o from past told s. (t : Seconds) (cs : List ShiftLine) (m : State) → Serves t s cs m → HoldsExact m)

-- ---- in order
-- Along the joined list seconds never fall; at one second up comes before down, and there is at most one of each. Which of the holds that
-- stand calls is said in `Caller`. (METHOD 24.14; rule2_order)
abbrev pub InOrder : (State → Type 0) → Type 0
InOrder From = AfterAny From (λ o from bs rs s. Rising (joined rs))

-- ---- none made up
-- Each shift line c of the answer to b, after the lines cs of that answer, is called for by the hold that goes first, under which its line has
-- pressed without a break for the hold seconds, or since the session was taken up. (METHOD 24.15; rule2_called_for)
abbrev pub EachLineCalledFor : (State → Type 0) → Type 0
EachLineCalledFor From =
    (o : State) → From o → (past : List (List ℕ)) (told : List Answer) (s : State) (h : AnswersInWords o past told s) (b : List ℕ) (cs : List ShiftLine)
    (c : ShiftLine) (ds : List ShiftLine) (m n : State) → Follows s b (cs ++ c ∷ ds) n → (k : Serves (seconds (word b 0)) s cs m) → CalledFor h b k c

-- And each line of the joined list is such a line. (rule2_reported)
abbrev pub EachLineReported : (State → Type 0) → Type 0
EachLineReported From = AfterAny From (λ o from bs rs s. Every (Reported o bs rs) (joined rs))

-- The shift lines and the shifts left are as many as were left when the session began: `left` of `AtOnce`, event by event.
-- (METHOD 24.16; rule2_count)
abbrev pub ShiftsCounted : (State → Type 0) → Type 0
ShiftsCounted From = AfterAny From (λ o from bs rs s. length (joined rs) + s.left ≡ o.left)

-- An accepted event has at most 16 shift lines: no more shifts than that are ever left. (METHOD 24.17; rule2_at_most_sixteen)
abbrev pub AtMostSixteen : (State → Type 0) → Type 0
AtMostSixteen From = AnyAccepted From (λ s b cs n. length cs ≤ most_shifts)

-- ---- all of it: of what a table opens (rule2), and of what a host has kept (rule2_kept)
pub record Rule2 (From : State → Type 0) : Type 0 where
  pub one_session : OneSession From
  pub at_once : EventAtOnce From
  pub nothing_left : NothingLeft From
  pub none_missed : NoneMissed From
  pub exact : HoldsStandExactly From
  pub exact_between : HoldsStandBetween From
  pub in_order : InOrder From
  pub called_for : EachLineCalledFor From
  pub reported : EachLineReported From
  pub counted : ShiftsCounted From
  pub at_most_sixteen : AtMostSixteen From

-- ---- of any state at all
-- The words leave at most one list of answers and one state. (rule2_at_most_one)
abbrev pub AtMostOne : Type 0
AtMostOne =
    (s : State) (bs : List (List ℕ)) (rs qs : List Answer) (m n : State) → AnswersInWords s bs rs m → AnswersInWords s bs qs n
    → (rs ≡ qs) × (m ≡ n)

-- A look at second u, before t, calls for no other shift: those up to u and then those up to t are those up to t.
-- (METHOD 24.12; rule2_whenever_looked)
abbrev pub WheneverLooked : Type 0
WheneverLooked =
    (u t : Seconds) (s m n : State) (cs ds : List ShiftLine) → u.0 ≤ t.0 → Serves u s cs m → Serves t m ds n → Serves t s (cs ++ ds) n

-- ---- of what a table opens
-- Every book is empty and the clock stands at 0; there is no pressure yet, and so no hold. (METHOD 24.8; rule2_at_opening)
abbrev pub AtOpening : Type 0
AtOpening =
    (o : State) → Opens o → Every (λ l. l.book ≡ empty_book) o.lines × (o.clock ≡ seconds 0) × ((side : Side) (place : ℕ) → hold_at side o place ≡ None)

-- Session end, hold seconds and near share are the table's, after any events. (METHOD 24.9; rule2_table_kept)
abbrev pub TableKept : Type 0
TableKept = AfterAny Opens (λ o opens bs rs s. Fixed (header_of opens.table) s)
