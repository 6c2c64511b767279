-- Rules 1, 2 and 3 (METHOD 24) as statements over the words, with no proof. The name in brackets is the theorem; those of a rule stand in the
-- proofs file of the rule's name. That tables are accepted and shifts are made at all, so that no statement is empty, is in the figures
-- (`starred_claim`, `examples_claim`).
use Rattle.std.specs.Prelude.{List, [], ◌∷◌, ◌++◌, ◌↔◌, ◌≡◌, ℕ, ◌+◌, ◌≤◌, Ok, Err}
use Rattle.method.specs.words.Types.{Seconds, Up, Down, Line, ShiftLine, TableReason, EventReason, State}
use Rattle.method.specs.words.Layout.{header_of}
use Rattle.method.specs.words.Tables.{opened, refused, TableAnswered}
use Rattle.method.specs.words.Events.{EventAnswered}
use Rattle.method.specs.words.Holds.{First}
use Rattle.method.specs.words.Shifts.{Each, count, Centre, HalfWidths}
use Rattle.method.specs.words.Sessions.{ShiftedTo, AppliedTo, Answer, AnswersInWords, joined, Struck}
use Rattle.method.specs.words.Margins.{margin, Lower, Outward}

-- ---- exactly one
pub record ExactlyOne {A : Type 0} (P : A → Type 0) : Type 0 where
  pub it : A
  pub so : P it
  pub only : (a : A) → P a → a ≡ it

-- ---- whom a statement speaks of
-- a state that an accepted table opens
pub record Opens (o : State) : Type 0 where
  pub table : List ℕ
  pub opened_by : TableAnswered table (opened o)

-- After any list of events, refused ones among them: o is a state in which a session begins (`From`), bs are any byte strings, rs are their
-- answers, and s is the state that they leave.
abbrev pub AfterAny : (From : State → Type 0) → ((o : State) → From o → List (List ℕ) → List Answer → State → Type 0) → Type 0
AfterAny From Q = (o : State) (from : From o) (bs : List (List ℕ)) (rs : List Answer) (s : State) → AnswersInWords o bs rs s → Q o from bs rs s

-- every line o of the opening and the same line l after u upward and d downward shifts, as many as the list calls for
abbrev pub EachLine : (ℕ → ℕ → Line → Line → Type 0) → Type 0
EachLine R = AfterAny Opens (λ o opens bs rs s. Each (R (count Up (joined rs)) (count Down (joined rs))) o.lines s.lines)

-- ---- the moments of a session: every state on the way, also those between the shifts of one event
-- The session that stood at o stands at s, and cs are the shift lines made on the way. A session changes by the shift of the hold that
-- goes first and by an accepted event that is applied, and by nothing else. (An event that is applied before all due holds are served makes
-- a moment too, and so does a shift ahead of every event, so that more is said of moments than a session asks.)
pub data Moment (o : State) : List ShiftLine → State → Type 0 where
  start : Moment o [] o
  shift :
      {cs : List ShiftLine} {s n : State} → Moment o cs s → (t : Seconds) (c : ShiftLine) → First t s c → ShiftedTo s c n → Moment o (cs ++ (c ∷ [])) n
  event :
      {cs : List ShiftLine} {s n : State} → Moment o cs s → (b : List ℕ) → EventAnswered s b (Ok tt) → AppliedTo s b n → Moment o cs n

-- ==== RULE 1
-- Every list of bytes opens a state or is refused with a number and a line: exactly one of the answers of `TableAnswered`. Which lines an accepted
-- table opens is said in its clause `all_good`. (METHOD 24.1, 24.6; rule1_every_table)
abbrev pub EveryTable : Type 0
EveryTable = (b : List ℕ) → ExactlyOne (TableAnswered b)

-- Every byte string, in every state, is accepted or refused with a number: exactly one of the answers of `EventAnswered`. Which shift lines and
-- which state follow is rule 2. (METHOD 24.2; rule1_every_event)
abbrev pub EveryEvent : Type 0
EveryEvent = (s : State) (b : List ℕ) → ExactlyOne (EventAnswered s b)

-- No refused table opens a state. (METHOD 24.3; rule1_refused_table)
abbrev pub RefusedOpensNothing : Type 0
RefusedOpensNothing = (b : List ℕ) (why : TableReason) (line : ℕ) → TableAnswered b (refused why line) → (s : State) → TableAnswered b (opened s) → ⊥

-- An event that is refused for `why` in the state m that the byte strings `past` leave can be struck out of any list: it is answered with its
-- refusal, hence with no shift line, and all other answers and the state, its clock included, are those without it. That no input bytes are
-- written needs no statement here, where a byte string is a value; the code takes its input to read only.
-- (METHOD 24.4, 24.5; rule1_refused_event)
abbrev pub RefusedChangesNothing : Type 0
RefusedChangesNothing =
    (o : State) (past : List (List ℕ)) (told : List Answer) (m : State) (b : List ℕ) (why : EventReason) → AnswersInWords o past told m
    → EventAnswered m b (Err why) → (rest : List (List ℕ)) (qs : List Answer) (n : State)
    → AnswersInWords o (past ++ b ∷ rest) qs n ↔ Struck o past told why rest qs n

-- ==== RULE 2
-- From every state that a table opens, whatever byte strings follow, the words of `AnswersInWords` leave exactly one list of answers and one state
-- after them, the whole of it. What those words come to, and that it holds from any state that a host may have kept of a session, is in laws.
-- (METHOD 24.7; rule2_every_session)
abbrev pub EverySession : Type 0
EverySession = (o : State) → Opens o → (bs : List (List ℕ)) → ExactlyOne (λ (r : List Answer × State). AnswersInWords o bs r.0 r.1)

-- ==== RULE 3
-- The shifts counted are those of the answers, so that they are the shifts that rule 2 calls for.

-- the centre, a half-move higher for each upward shift and lower for each downward one (METHOD 24.19; rule3_centres)
abbrev pub Centres : Type 0
Centres = EachLine Centre

-- each half-width, wider by a half-move for each shift (METHOD 24.20; rule3_half_widths)
abbrev pub HalfWidthsGrow : Type 0
HalfWidthsGrow = EachLine (λ u d. HalfWidths (u + d))

-- no more shifts than the table's number, and those made and those left are that number (METHOD 24.21; rule3_shifts)
abbrev pub ShiftsWithin : Type 0
ShiftsWithin =
    AfterAny Opens (λ o opens bs rs s. let made : ℕ = count Up (joined rs) + count Down (joined rs) in
    let most : ℕ = (header_of opens.table).most in
    (made ≤ most) × (made + s.left ≡ most))

-- no limit further inside, from any moment of a session to any later one, also between the shifts of an event (METHOD 24.22; rule3_never_inward)
abbrev pub NeverInward : Type 0
NeverInward =
    (o s r : State) (cs ds : List ShiftLine) → Opens o → Moment o cs s → Moment s ds r
    → Each Outward s.lines r.lines

-- the upper limit, as far inside its bound as at opening (METHOD 24.23; rule3_upper)
abbrev pub UpperInside : Type 0
UpperInside = EachLine (λ u d o l. margin Up l ≡ margin Up o)

-- the lower limit, likewise until the floor acts on it, and then at least so far (METHOD 24.24; rule3_lower)
abbrev pub LowerInside : Type 0
LowerInside = EachLine (λ u d. Lower)
