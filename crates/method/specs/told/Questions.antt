-- The questions on one contract (METHOD 21): its limits, and where an order price lies. They know only refusal 13, serve nothing and know no time.
use Rattle.std.specs.Prelude.{Bool, true, false, cond, ◌||◌, List, [], ◌∷◌, ℕ, eqb, Ok, Err}
use Rattle.std.specs.Int.Signed.{lt_z}
use Rattle.method.specs.words.Types.{Steps, Limits, Line, EventReason, State, session_ids, blank}
use Rattle.method.specs.told.Types.{LimitsAnswer, Place, PlaceAnswer, Below, Inside, Above}

-- ---- a choice by a test: `demand` goes on where the test holds, and refuses where it does not
module _ {A : Type 0} where
  abbrev pub demand : Bool → A → A → A
  demand true refusal onward = onward
  demand false refusal onward = refusal

-- ---- the contract that is asked for
-- whether an id is one of some ids, and whether it is one of the session's
unfoldable pub listed : ℕ → List ℕ → Bool
listed id [] = false
listed id (i ∷ is) = eqb i id || listed id is

abbrev pub known : ℕ → State → Bool
known id s = listed id (session_ids s)

-- the line of an id
unfoldable pub line_of : ℕ → List Line → Line
line_of id [] = blank
line_of id (l ∷ ls) = cond (eqb l.terms.id id) l (line_of id ls)

-- ---- the answers
unfoldable pub limits : ℕ → State → LimitsAnswer
limits id s =
    demand (known id s) (Err EventReason.UnknownId) (Ok (line_of id s.lines).limits)

-- a price on a limit is inside (METHOD 21.2)
unfoldable pub placed : Limits → Steps → Place
placed k p = cond (lt_z p.0 k.lower.0) Below (cond (lt_z k.upper.0 p.0) Above Inside)

unfoldable pub place : ℕ → Steps → State → PlaceAnswer
place id p s = demand (known id s) (Err EventReason.UnknownId) (Ok (placed (line_of id s.lines).limits p))
