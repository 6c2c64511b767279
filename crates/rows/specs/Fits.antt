-- Which rows have numbers of 64 bits.
use Rattle.std.specs.Prelude.{ℕ, ◌≤◌}
use Rattle.method.specs.declared.Row.{Row}

-- the largest that a number of 64 bits with a sign may be
abbrev pub largest_number : ℕ
largest_number = 9_223_372_036_854_775_807

-- A refused event's place counts the events of a buffer, and is the only value of a row that has no range of its own.
abbrev pub Fits : Row → Type 0
Fits (Row.Shift c) = Unit {0}
Fits (Row.RefusedEvent why place) = place ≤ largest_number
Fits (Row.RefusedTable why line) = Unit {0}
Fits (Row.Closed c) = Unit {0}
