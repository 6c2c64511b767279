-- A session in words, step by step and with nothing computed in them: what a shift and an event make of the whole state, and which answers a list
-- of byte strings has, with the state that it leaves (METHOD 15, 16, 18, 19).
use Rattle.std.specs.Prelude.{List, [], ◌∷◌, ◌++◌, ◌≡◌, ℕ, ◌+◌, Ok, Err}
use Rattle.method.specs.words.Types.{Millionths, Seconds, Side, Line, ShiftLine, EventReason, seconds, State}
use Rattle.method.specs.words.Wire.{word}
use Rattle.method.specs.words.Events.{EventAnswered}
use Rattle.method.specs.words.Pressure.{presses}
use Rattle.method.specs.words.Holds.{First, Done, Life, hold_of}
use Rattle.method.specs.words.Books.{BookLife}
use Rattle.method.specs.words.Shifts.{Each, LineShifted}

-- ---- one event, from line l to line n
-- The book of the line that it quotes is replaced (METHOD 12.4). Holds are judged on every line; where the book stays, so does pressure, and with
-- it the hold (METHOD 14.4).
pub record LineApplied (near : Millionths) (left : ℕ) (b : List ℕ) (l n : Line) : Type 0 where
  pub terms : n.terms ≡ l.terms
  pub market : n.market ≡ l.market
  pub limits : n.limits ≡ l.limits
  pub book : BookLife b l n
  pub holds : (side : Side) → Life left (seconds (word b 0)) (presses side near n) (hold_of side l.holds) (hold_of side n.holds)

-- ---- the whole state, from s to n
-- what the table fixed for the session
pub record SameTable (s n : State) : Type 0 where
  pub end : n.end ≡ s.end
  pub hold : n.hold ≡ s.hold
  pub near : n.near ≡ s.near

-- A shift: every line of the table, in its place, and one less of the shifts that are left. The clock waits for the event. (METHOD 16.6, 16.7, 16.8)
pub record ShiftedTo (s : State) (c : ShiftLine) (n : State) : Type 0 where
  pub lines : Each (LineShifted s.near n.left c) s.lines n.lines
  pub left : n.left + 1 ≡ s.left
  pub clock : n.clock ≡ s.clock
  pub table : SameTable s n

-- an event that is applied (METHOD 15.5)
pub record AppliedTo (s : State) (b : List ℕ) (n : State) : Type 0 where
  pub lines : Each (LineApplied s.near s.left b) s.lines n.lines
  pub left : n.left ≡ s.left
  pub clock : n.clock ≡ seconds (word b 0)
  pub table : SameTable s n

-- Holds served up to t: one shift after another, each of the hold that goes first in the state before it. cs are their shift lines, n is the
-- state after them. (METHOD 15.1, 15.4)
pub data Serves (t : Seconds) : State → List ShiftLine → State → Type 0 where
  nothing : {s : State} → Serves t s [] s
  first : {s m n : State} {c : ShiftLine} {cs : List ShiftLine} → First t s c → ShiftedTo s c m → Serves t m cs n → Serves t s (c ∷ cs) n

-- the event b is accepted in state s, is answered with the shift lines cs, and leaves state n (METHOD 19.3)
pub record Follows (s : State) (b : List ℕ) (cs : List ShiftLine) (n : State) : Type 0 where
  pub taken : EventAnswered s b (Ok tt)
  pub between : State
  pub served : Serves (seconds (word b 0)) s cs between
  pub all_served : Done (seconds (word b 0)) between
  pub applied : AppliedTo between b n

-- ---- a session
-- the answer to a byte string (METHOD 19.1, 19.2)
pub data Answer : Type 0 where
  accepted : List ShiftLine → Answer
  refused : EventReason → Answer

-- from state s the byte strings bs are answered with rs, and leave state n; a refused one leaves the state as it was (METHOD 19.3, 19.4)
pub data AnswersInWords : State → List (List ℕ) → List Answer → State → Type 0 where
  no_more : {s : State} → AnswersInWords s [] [] s
  taken :
      {s m n : State} {b : List ℕ} {bs : List (List ℕ)} {cs : List ShiftLine} {rs : List Answer} → Follows s b cs m → AnswersInWords m bs rs n
      → AnswersInWords s (b ∷ bs) (accepted cs ∷ rs) n
  turned_away :
      {s n : State} {b : List ℕ} {bs : List (List ℕ)} {why : EventReason} {rs : List Answer} → EventAnswered s b (Err why)
      → AnswersInWords s bs rs n → AnswersInWords s (b ∷ bs) (refused why ∷ rs) n

abbrev pub lines_of : Answer → List ShiftLine
lines_of (accepted cs) = cs
lines_of (refused why) = []

unfoldable pub joined : List Answer → List ShiftLine
joined [] = []
joined (a ∷ rs) = lines_of a ++ joined rs

-- ---- a refused event struck out
-- qs are the answers told, then a refusal for `why`, and then those that `rest` has without the refused event
pub record Struck (o : State) (past : List (List ℕ)) (told : List Answer) (why : EventReason) (rest : List (List ℕ)) (qs : List Answer) (n : State) : Type 0 where
  pub more : List Answer
  pub answers : qs ≡ told ++ refused why ∷ more
  pub without : AnswersInWords o (past ++ rest) (told ++ more) n
