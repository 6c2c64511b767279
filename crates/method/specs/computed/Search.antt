-- How the answers are found. From every proper state it is proved to give the one list of answers that the words admit (`SessionIs`).
-- The search passes the lines once, in the table's order, and carries the hold that goes first of those passed.
use Rattle.std.specs.Prelude.{cond, Bool, true, false, List, [], ◌∷◌, ℕ, ◌+◌, zero, suc, ltb, leb, get_or, None, Some, Ok, Err}
use Rattle.method.specs.words.Types.{Seconds, Side, Up, Down, Hold, Holds, Line, ShiftLine, Due, EventAnswer, seconds, State, blank}
use Rattle.method.specs.words.Sessions.{Answer, accepted, refused}
use Rattle.method.specs.computed.Types.{ReadEvent, Found}
use Rattle.method.specs.computed.Head.{most_left}
use Rattle.method.specs.computed.Shift.{onward}
use Rattle.method.specs.computed.Event.{read, verdict, next}
use Rattle.method.specs.computed.Relation.{time}

-- when a hold falls due, after `wait` seconds
unfoldable pub due_of : Side → Seconds → ℕ → Hold → Found
due_of side wait place None = None
due_of side wait place (Some start) = Some (record { second = seconds (start.0 + wait.0); side = side; place = place })

-- of two holds due at one second, whether the first goes before a second that stands at no later place
abbrev pub outranks : Side → Side → Bool
outranks Up Up = false
outranks Up Down = true
outranks Down side = false

unfoldable pub ahead : Due → Due → Bool
ahead x y = cond (ltb x.second.0 y.second.0) true (cond (ltb y.second.0 x.second.0) false (outranks x.side y.side))

-- the first unless the second goes before it
unfoldable pub sooner : Found → Found → Found
sooner None d = d
sooner (Some y) None = Some y
sooner (Some y) (Some x) = cond (ahead x y) (Some x) (Some y)

-- one more line passed
unfoldable pub passed : Seconds → ℕ → Holds → Found → Found
passed wait place h best = sooner (sooner best (due_of Up wait place h.up)) (due_of Down wait place h.down)

unfoldable pub earliest : Seconds → ℕ → List Line → Found → Found
earliest wait place [] best = best
earliest wait place (l ∷ ls) best = earliest wait (suc place) ls (passed wait place l.holds best)

-- due at or before t and before session end, while shifts are left
unfoldable pub in_time : Seconds → Seconds → ℕ → Found → Found
in_time t end left None = None
in_time t end left (Some x) =
    cond (ltb t.0 x.second.0) None (cond (leb end.0 x.second.0) None (cond (ltb 0 left) (Some x) None))

unfoldable pub next_due : Seconds → State → Found
next_due t s = in_time t s.end s.left (earliest s.hold 0 s.lines None)

abbrev pub called : State → Due → ShiftLine
called s x = record { second = x.second; side = x.side; id = (get_or s.lines x.place blank).terms.id }

abbrev pub if_due : Found → (Due → List ShiftLine) → List ShiftLine
if_due None onward = []
if_due (Some x) onward = onward x

-- at most n shifts; n is as many as may still be made
unfoldable pub serve : ℕ → Seconds → State → List ShiftLine
serve zero t s = []
serve (suc n) t s = if_due (next_due t s) (λ (x : Due). called s x ∷ serve n t (onward s (called s x)))

-- the shift lines of all holds that are due by t
unfoldable pub served_by : Seconds → State → List ShiftLine
served_by t s = serve (most_left s) t s

abbrev pub as_answer : EventAnswer → List ShiftLine → Answer
as_answer (Ok taken) cs = accepted cs
as_answer (Err why) cs = refused why

unfoldable pub answer : State → ReadEvent → Answer
answer s e = as_answer (verdict s e) (served_by (time e) s)

-- the answers to a list of byte strings, and the state after them
unfoldable pub run : State → List (List ℕ) → List Answer
run s [] = []
run s (b ∷ bs) = let a : Answer = answer s (read b) in a ∷ run (next s (read b) a) bs

unfoldable pub finally : State → List (List ℕ) → State
finally s [] = s
finally s (b ∷ bs) = finally (next s (read b) (answer s (read b))) bs
