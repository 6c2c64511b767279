-- What holds of a session at opening and after every event, and of every state from which one may be taken up.
use Rattle.std.specs.Prelude.{Bool, true, false, ◌&&◌, List, [], ◌∷◌, ◌≡◌, ℕ, ◌≤◌, ltb, None, Some}
use Rattle.method.specs.words.Types.{Millionths, Side, Hold, Line, State, session_ids}
use Rattle.method.specs.words.Ranges.{Every}
use Rattle.method.specs.words.Pressure.{presses}
use Rattle.method.specs.words.Holds.{Done, hold_of}
use Rattle.method.specs.computed.Rooms.{Sane}

abbrev pub standing : Hold → Bool
standing None = false
standing (Some start) = true

-- a hold stands exactly where a watched line presses and shifts are left
unfoldable pub Exact : Millionths → ℕ → Line → Type 0
Exact near left l = (side : Side) → standing (hold_of side l.holds) ≡ (ltb 0 left && presses side near l)

-- and no hold is left to serve up to the clock
pub record Sound (s : State) : Type 0 where
  pub waits : 1 ≤ s.hold.0
  pub exact : Every (Exact s.near s.left) s.lines
  pub served : Done s.clock s

-- no id stands twice
unfoldable pub Distinct : List ℕ → Type 0
Distinct [] = Unit {0}
Distinct (i ∷ is) = Every (λ j. j ≡ i → ⊥) is × Distinct is

-- All of it: ranges, holds and ids. A state that a host has kept of a session is proper, and so is whatever stands in memory of which the same
-- is tested.
pub record Proper (s : State) : Type 0 where
  pub sane : Sane s
  pub sound : Sound s
  pub distinct : Distinct (session_ids s)
