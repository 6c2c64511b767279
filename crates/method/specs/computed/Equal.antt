-- What is computed is what the words admit, and nothing else: so nobody has to believe `opening`, `verdict`, `judge`, `onward`, `applied`, `next`,
-- `serve`, `run` or `program`. Statements and no proof; the name in brackets is the theorem, in proofs/Computed.
use Rattle.std.specs.Prelude.{List, ◌↔◌, ◌≡◌, ℕ, ◌<◌}
use Rattle.method.specs.words.Types.{ShiftLine, EventAnswer, State, session_ids}
use Rattle.method.specs.words.Ranges.{Every}
use Rattle.method.specs.words.Tables.{Opening, TableAnswered}
use Rattle.method.specs.words.Events.{IsEvent, EventAnswered}
use Rattle.method.specs.words.Sessions.{ShiftedTo, AppliedTo, Follows, Answer, accepted, AnswersInWords}
use Rattle.method.specs.words.Rules.{Opens, AfterAny}
use Rattle.method.specs.told.Types.{Row}
use Rattle.method.specs.told.Program.{Prints}
use Rattle.method.specs.told.Text.{Writes}
use Rattle.method.specs.computed.Table.{opening}
use Rattle.method.specs.computed.Shift.{onward}
use Rattle.method.specs.computed.Event.{read, verdict, applied, next}
use Rattle.method.specs.computed.Relation.{Right, Answers, reached}
use Rattle.method.specs.computed.Search.{run, finally}
use Rattle.method.specs.computed.Sound.{Exact, Sound, Distinct, Proper}
use Rattle.method.specs.computed.Program.{program, output}

-- ---- rule 1: the answer to a table (computed-opening), and to an event (computed-verdict)
abbrev pub OpeningIs : Type 0
OpeningIs = (b : List ℕ) (a : Opening) → (opening b ≡ a) ↔ TableAnswered b a

abbrev pub VerdictIs : Type 0
VerdictIs = (s : State) (b : List ℕ) (a : EventAnswer) → (verdict s (read b) ≡ a) ↔ EventAnswered s b a

-- ---- rule 2: the answers to any byte strings from a proper state, and the whole state after them (computed-session)
abbrev pub SessionIs : Type 0
SessionIs =
    (o : State) → Proper o → (bs : List (List ℕ)) (rs : List Answer) (n : State) → AnswersInWords o bs rs n ↔ ((rs ≡ run o bs) × (n ≡ finally o bs))

-- A state that a table opens is proper, (computed_opens_proper)
abbrev pub OpensProper : Type 0
OpensProper = (o : State) → Opens o → Proper o

-- and so is every state of a session that began in a proper one. (computed_stays_proper)
abbrev pub StaysProper : Type 0
StaysProper = AfterAny Proper (λ o proper bs rs s. Proper s)

-- ---- one next state: of one shift, in any state while shifts are left; (computed-shift)
abbrev pub OneShift : Type 0
OneShift = (s : State) (c : ShiftLine) (n : State) → 0 < s.left → ShiftedTo s c n ↔ (n ≡ onward s c)

-- of one event that is applied, where holds stand exactly where they are to; (computed-event)
abbrev pub OneEvent : Type 0
OneEvent =
    (s : State) (b : List ℕ) (n : State) → Every (Exact s.near s.left) s.lines → Distinct (session_ids s) → IsEvent b
    → AppliedTo s b n ↔ (n ≡ applied (read b) s)

-- and of an accepted event with its shift lines. (computed-next)
abbrev pub OneNextState : Type 0
OneNextState =
    (s : State) → Sound s → Distinct (session_ids s) → (b : List ℕ) (cs : List ShiftLine) (n : State)
    → Follows s b cs n ↔ (Right s (read b) (accepted cs) × (n ≡ next s (read b) (accepted cs)))

-- ---- the relation that the proofs and the crates above use is the same (computed-answers),
abbrev pub SameAnswers : Type 0
SameAnswers =
    (s : State) → Sound s → Distinct (session_ids s) → (bs : List (List ℕ)) (rs : List Answer) (n : State)
    → AnswersInWords s bs rs n ↔ (Answers s bs rs × (n ≡ reached s bs rs))

-- has, from every sound state, the answers that `run` finds and no others, (computed-run)
abbrev pub RightAnswers : Type 0
RightAnswers = (s : State) → Sound s → (bs : List (List ℕ)) (rs : List Answer) → Answers s bs rs ↔ (rs ≡ run s bs)

-- and leaves the state that they leave. (computed-reached)
abbrev pub SessionReached : Type 0
SessionReached = (s : State) (bs : List (List ℕ)) → finally s bs ≡ reached s bs (run s bs)

-- ---- what the program prints, in rows (computed-program),
abbrev pub ProgramPrints : Type 0
ProgramPrints = (input : List ℕ) (rows : List Row) → Prints input rows ↔ (rows ≡ program input)

-- and in bytes (computed-output)
abbrev pub OutputWritten : Type 0
OutputWritten = (input bytes : List ℕ) → Writes input bytes ↔ (bytes ≡ output input)
