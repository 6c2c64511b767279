-- What a state has beside its lines (METHOD 11.9, 18.4), computed: with other lines, shifts left and clock; and how many shifts may still be made.
use Rattle.std.specs.Prelude.{List, ℕ}
use Rattle.method.specs.words.Types.{Seconds, Line, State}

abbrev pub with_lines : State → List Line → ℕ → Seconds → State
with_lines s ls left clock = record { lines = ls; clock = clock; end = s.end; hold = s.hold; left = left; near = s.near }

-- How many shifts may still be made in all, by which the ranges of a session's numbers go. `left` has those that may be made now; today these are
-- all.
unfoldable pub most_left : State → ℕ
most_left s = s.left
