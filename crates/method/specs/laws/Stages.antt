-- The stages of a session, one after each shift and one after each accepted event, and who called for a shift line along them.
use Rattle.std.specs.Prelude.{true, List, [], ◌∷◌, ◌++◌, ◌⊎◌, ◌≡◌, ℕ, ◌<◌, Some}
use Rattle.method.specs.words.Types.{Seconds, Side, ShiftLine, seconds, State}
use Rattle.method.specs.words.Wire.{word}
use Rattle.method.specs.words.Ranges.{Every}
use Rattle.method.specs.words.Holds.{hold_at}
use Rattle.method.specs.words.Sessions.{Serves, nothing, first, Follows, taken, Answer, accepted, AnswersInWords, no_more, turned_away}
use Rattle.method.specs.laws.Seen.{presses_at, Caller, Timely}

-- a stage has the second at which its state begins
pub record Stage : Type 0 where
  pub second : Seconds
  pub state : State

unfoldable pub shift_stages : {t : Seconds} {s n : State} {cs : List ShiftLine} → Serves t s cs n → List Stage
shift_stages nothing = []
shift_stages (first {m = m} {c = c} f p r) = record { second = c.second; state = m } ∷ shift_stages r

unfoldable pub stages : {s n : State} {bs : List (List ℕ)} {rs : List Answer} → AnswersInWords s bs rs n → List Stage
stages no_more = []
stages (taken {m = m} {b = b} f r) = shift_stages f.served ++ record { second = seconds (word b 0); state = m } ∷ stages r
stages (turned_away v r) = stages r

-- at a stage the line at that place presses, and its hold stands since `start`
pub record Pressing (side : Side) (place : ℕ) (start : Seconds) (m : Stage) : Type 0 where
  pub held : hold_at side m.state place ≡ Some start
  pub pressed : presses_at side m.state place ≡ true

-- The line has pressed without a break since `start`: from a stage at that second on, and so at all stages later than that second.
pub record Begun (side : Side) (place : ℕ) (start : Seconds) (ms : List Stage) : Type 0 where
  pub earlier : List Stage
  pub began : Stage
  pub later : List Stage
  pub split : ms ≡ earlier ++ began ∷ later
  pub at_start : began.second ≡ start
  pub from_there : Every (Pressing side place start) (began ∷ later)
  pub ever_since : Every (λ m. start.0 < m.second.0 → Pressing side place start m) ms

-- Or it pressed when the session was taken up at o, with its hold standing, and has pressed at every stage since. At opening no hold stands.
pub record Throughout (side : Side) (place : ℕ) (start : Seconds) (o : State) (ms : List Stage) : Type 0 where
  pub stood : hold_at side o place ≡ Some start
  pub ever_since : Every (Pressing side place start) ms

-- Shift line c of the answer to b, after the lines of that answer that k makes: who called, when, and since when its line has pressed.
pub record CalledFor {o s m : State} {past : List (List ℕ)} {told : List Answer} {cs : List ShiftLine} (h : AnswersInWords o past told s) (b : List ℕ)
    (k : Serves (seconds (word b 0)) s cs m) (c : ShiftLine) : Type 0 where
  pub caller : Caller m c
  pub timely : Timely s.clock (seconds (word b 0)) o.end c
  pub unbroken :
      let ms : List Stage = stages h ++ shift_stages k in
      Begun c.side caller.place caller.start ms ⊎ Throughout c.side caller.place caller.start o ms

-- where a shift line of the joined list comes from
pub record Reported (o : State) (bs : List (List ℕ)) (rs : List Answer) (c : ShiftLine) : Type 0 where
  pub past : List (List ℕ)
  pub told : List Answer
  pub state : State
  pub b : List ℕ
  pub cs : List ShiftLine
  pub ds : List ShiftLine
  pub left_by : State
  pub rest : List (List ℕ)
  pub more : List Answer
  pub inputs : bs ≡ past ++ b ∷ rest
  pub outputs : rs ≡ told ++ accepted (cs ++ c ∷ ds) ∷ more
  pub so_far : AnswersInWords o past told state
  pub answer : Follows state b (cs ++ c ∷ ds) left_by
