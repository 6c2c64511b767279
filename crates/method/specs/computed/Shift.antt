-- A shift (METHOD 16), computed: of one line and of all lines.
use Rattle.std.specs.Prelude.{List, [], ◌∷◌, map, ℕ, ◌-◌, ◌+ℤ◌, ◌-ℤ◌, None}
use Rattle.method.specs.words.Types.{Steps, Millionths, Seconds, Side, Up, Down, Terms, Market, Limits, Holds, Line, ShiftLine, steps, State}
use Rattle.method.specs.words.Ranges.{permits_negative}
use Rattle.method.specs.words.Bounds.{bound}
use Rattle.method.specs.words.Opening.{floored}
use Rattle.method.specs.computed.Head.{with_lines}
use Rattle.method.specs.computed.Judge.{judge_line}

abbrev pub toward : Side → Steps → Steps → Steps
toward Up by z = steps (z.0 +ℤ by.0)
toward Down by z = steps (z.0 -ℤ by.0)

-- the market after a shift
unfoldable pub moved : Side → Steps → Market → Market
moved side by m =
    record { centre = toward side by m.centre; half1 = toward Up by m.half1; half2 = toward Up by m.half2; half3 = toward Up by m.half3 }

-- the limits after it, where the market was m and is n
unfoldable pub redrawn : Side → Terms → Market → Market → Limits → Limits
redrawn Up t m n k = record { upper = steps (k.upper.0 +ℤ (bound Up t.factors n -ℤ bound Up t.factors m)); lower = k.lower; frozen = k.frozen }
redrawn Down t m n k =
    floored (permits_negative t.flags)
    (record { upper = k.upper; lower = steps (k.lower.0 -ℤ (bound Down t.factors m -ℤ bound Down t.factors n)); frozen = k.frozen })

-- the shifted side's hold ends
abbrev pub ended : Side → Holds → Holds
ended Up h = record { up = None; down = h.down }
ended Down h = record { up = h.up; down = None }

unfoldable pub moved_line : Side → Line → Line
moved_line side l =
    let n : Market = moved side l.terms.halfmove l.market in
    record { terms = l.terms; market = n; limits = redrawn side l.terms l.market n l.limits; book = l.book; holds = ended side l.holds }

-- and both sides are judged at the shift's second
unfoldable pub shift_line : Millionths → ℕ → Side → Seconds → Line → Line
shift_line near left side now l = judge_line near left now (moved_line side l)

-- of every line, and one shift less is left
unfoldable pub shifted : Side → Seconds → State → State
shifted side now s = with_lines s (map (shift_line s.near (s.left - 1) side now) s.lines) (s.left - 1) s.clock

-- the state after the shift of a shift line, and after those of a list of them
abbrev pub onward : State → ShiftLine → State
onward s c = shifted c.side c.second s

unfoldable pub after : List ShiftLine → State → State
after [] s = s
after (c ∷ cs) s = after cs (onward s c)
