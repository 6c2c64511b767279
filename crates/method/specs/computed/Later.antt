-- The moments of a session, over the computed state steps.
use Rattle.std.specs.Prelude.{List, [], ◌∷◌, ◌++◌, ◌≡◌, ℕ, Ok}
use Rattle.method.specs.words.Types.{Seconds, ShiftLine, State}
use Rattle.method.specs.words.Holds.{First}
use Rattle.method.specs.computed.Shift.{onward}
use Rattle.method.specs.computed.Event.{read, verdict, applied}

-- The session that stood at o stands at s, and cs are the shift lines made on the way. A session changes by the shift of the hold that
-- goes first and by an accepted event that is applied, and by nothing else. (An event that is applied before all due holds are served makes
-- a moment too, and so does a shift ahead of every event, so that more is said of moments than a session asks. That right answers lead to
-- moments is proved.)
pub data Later (o : State) : List ShiftLine → State → Type 0 where
  start : Later o [] o
  shift : {cs : List ShiftLine} {s : State} → Later o cs s → (t : Seconds) (c : ShiftLine) → First t s c → Later o (cs ++ (c ∷ [])) (onward s c)
  event :
      {cs : List ShiftLine} {s : State} → Later o cs s → (b : List ℕ) → verdict s (read b) ≡ Ok tt
      → Later o cs (applied (read b) s)
