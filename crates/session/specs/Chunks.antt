-- What the program knows of the events that it has answered so far.
use Rattle.std.specs.Prelude.{◌≡◌, List, ℕ}
use Rattle.corridor.specs.declared.Session.{Session}
use Rattle.feeding.specs.Chunks.{WholeButLast, left_in}

-- the session that some chunks leave, of which only the last may end in a cut event
pub record Reached (first s : Session) : Type 0 where
  pub chunks : List (List ℕ)
  pub whole : WholeButLast chunks
  pub left : s ≡ left_in first chunks
