-- A session in memory that the host owns: 33 pairs of rows of 16 numbers. A line stands in each of the first 32 pairs, and in the first row
-- of the 33rd what the session has beside its lines. Any numbers read as some session, so nothing is asked of memory that `open` is to
-- fill.
use Rattle.std.specs.Prelude.{List, [], map, ℕ, get_or, take}
use Rattle.host_row.specs.Packed.{no_row, line_in, head_in}
use Rattle.host_memory.specs.Names.{Limits, Book, Holds, Line, Head, Session}

-- ---- the whole memory
abbrev pub Memory : Type 0
Memory = List (List (List ℕ))

abbrev pub no_pair : List (List ℕ)
no_pair = []

abbrev pub head_of : Memory → List ℕ
head_of pairs = get_or (get_or pairs 32 no_pair) 0 no_row

-- a line of which what its second row has is another
abbrev pub with_judged : Line → Limits → Book → Holds → Line
with_judged l k b h = record { terms = l.terms; market = l.market; limits = k; book = b; holds = h }

-- a session of lines and of what it has beside them
abbrev pub session_of : List Line → Head → Session
session_of ls h =
    record { lines = ls; count = h.count; clock = h.clock; end = h.end; hold = h.hold; left = h.left; near = h.near }

unfoldable pub session_in : Memory → Session
session_in pairs = session_of (map line_in (take 32 pairs)) (head_in (head_of pairs))
