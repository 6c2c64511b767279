-- How far a slice is filled, and with what.
use Rattle.std.specs.Prelude.{List, ℕ, ◌<◌, length, take, Option}
use Rattle.std.specs.Io.KnownBytes.{Consumes, IsAtEnd}

-- of an input whose bytes are known (`Some` of them) before and after: a slice has its next n bytes at its start, and is not full only where
-- nothing is left
pub record FilledFrom (before after : Option (List ℕ)) (n : ℕ) (room : List ℕ) : Type 0 where
  pub taken : Consumes before after (take n room)
  pub ended : n < length room → IsAtEnd after
