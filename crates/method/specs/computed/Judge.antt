-- What pressure does to a hold (METHOD 14), computed.
use Rattle.std.specs.Prelude.{Bool, true, false, ◌&&◌, ℕ, ltb, None, Some}
use Rattle.method.specs.words.Types.{Millionths, Seconds, Side, Up, Down, Limits, Book, Hold, Holds, Line}
use Rattle.method.specs.words.Ranges.{under_watch}
use Rattle.method.specs.words.Pressure.{under_pressure}
use Rattle.method.specs.computed.Types.{Watch}

-- one hold, by whether its side is pressed (METHOD 14.2)
unfoldable pub judged : Seconds → Bool → Hold → Hold
judged now false h = None
judged now true None = Some now
judged now true (Some start) = Some start

-- ---- both holds, over all that they hang on: whatever has limits, a book and holds is judged by it
abbrev pub watched : Side → Watch → Bool
watched Up w = w.up
watched Down w = w.down

-- whether a side is to have a hold: it is under pressure, and of the shifts that may be made now some are left (METHOD 14.5, 14.7)
abbrev pub to_hold : Side → Watch → Millionths → ℕ → Limits → Book → Bool
to_hold side w near left k b = ltb 0 left && under_pressure (watched side w) side near k b

unfoldable pub judge : Watch → Millionths → ℕ → Seconds → Limits → Book → Holds → Holds
judge w near left now k b h =
    record { up = judged now (to_hold Up w near left k b) h.up; down = judged now (to_hold Down w near left k b) h.down }

-- ---- of a line
abbrev pub watch_of : Line → Watch
watch_of l = record { up = under_watch l.terms.flags; down = under_watch l.terms.flags }

abbrev pub with_holds : Line → Holds → Line
with_holds l h = record { terms = l.terms; market = l.market; limits = l.limits; book = l.book; holds = h }

unfoldable pub judge_line : Millionths → ℕ → Seconds → Line → Line
judge_line near left now l = with_holds l (judge (watch_of l) near left now l.limits l.book l.holds)
