-- What a byte string says, whether it is refused, and what an accepted one does (METHOD 12, 19, 20), computed.
use Rattle.std.specs.Prelude.{cond, Bool, true, false, ◌&&◌, List, [], ◌∷◌, ℕ, ltb, leb, eqb, ℤ, pos, length, None, Some, Ok, Err}
use Rattle.std.specs.Int.Signed.{le_z}
use Rattle.numbers.specs.Tests.{in_span, same}
use Rattle.method.specs.words.Types.{Millionths, Seconds, Price, Line, EventReason, EventAnswer, steps, seconds, State, session_ids}
use Rattle.method.specs.words.Wire.{word, signed, bit}
use Rattle.method.specs.words.Ranges.{largest_quote}
use Rattle.method.specs.words.Sessions.{Answer, accepted, refused}
use Rattle.method.specs.told.Questions.{listed, demand}
use Rattle.method.specs.computed.Types.{Quote, ReadEvent, Tick, Quoted}
use Rattle.method.specs.computed.Head.{with_lines}
use Rattle.method.specs.computed.Judge.{judge_line}
use Rattle.method.specs.computed.Shift.{after}

-- ---- what a byte string says
-- a price that is absent is 0, and one that is present lies in its range
abbrev pub zero_if_absent : Bool → ℤ → Bool
zero_if_absent true z = true
zero_if_absent false z = same z (pos 0)

abbrev pub in_if_present : Bool → ℤ → Bool
in_if_present true z = in_span largest_quote z
in_if_present false z = true

abbrev pub price_of : Bool → ℤ → Price
price_of true z = Some (steps z)
price_of false z = None

-- a tick has nothing but its time and its flag (METHOD 12.1)
unfoldable pub read_tick : Seconds → ℕ → ℤ → ℤ → ReadEvent
read_tick time id bid ask = demand (eqb id 0 && same bid (pos 0) && same ask (pos 0)) (Err EventReason.Malformed) (Ok (Tick time))

-- a quote has the prices that its flags say are there (METHOD 12.2)
unfoldable pub read_quote : Seconds → ℕ → ℕ → ℤ → ℤ → ReadEvent
read_quote time id flags bid ask =
    demand (ltb flags 4) (Err EventReason.Malformed)
    (demand (zero_if_absent (bit 0 flags) bid && zero_if_absent (bit 1 flags) ask) (Err EventReason.AbsentNotZero)
    (demand (in_if_present (bit 0 flags) bid && in_if_present (bit 1 flags) ask) (Err EventReason.PriceOutOfRange)
    (Ok (Quoted (record { time = time; id = id; bid = price_of (bit 0 flags) bid; ask = price_of (bit 1 flags) ask })))))

-- any other byte string is damaged (METHOD 12.3, 12.7)
unfoldable pub read : List ℕ → ReadEvent
read b =
    let time : Seconds = seconds (word b 0) in
    let bid : ℤ = signed (word b 12) in
    let ask : ℤ = signed (word b 16) in
    demand (eqb (length b) 20) (Err EventReason.Malformed)
    (cond (eqb (word b 8) 4) (read_tick time (word b 4) bid ask) (read_quote time (word b 4) (word b 8) bid ask))

-- ---- whether it is refused, test by test in the order of METHOD 20: in a session of these ids, this end and this clock
unfoldable pub in_session : Seconds → Seconds → Seconds → EventAnswer → EventAnswer
in_session end clock time onward =
    demand (leb time.0 end.0) (Err EventReason.AfterEnd)
    (demand (leb clock.0 time.0) (Err EventReason.BeforeClock) onward)

-- bid and ask, where both are there
unfoldable pub not_crossed : Price → Price → Bool
not_crossed (Some bid) (Some ask) = le_z bid.0 ask.0
not_crossed (Some bid) None = true
not_crossed None ask = true

unfoldable pub quote_answer : List ℕ → Quote → EventAnswer
quote_answer ids q =
    demand (listed q.id ids) (Err EventReason.UnknownId)
    (demand (not_crossed q.bid q.ask) (Err EventReason.Crossed) (Ok tt))

unfoldable pub screened : List ℕ → Seconds → Seconds → ReadEvent → EventAnswer
screened ids end clock (Err why) = Err why
screened ids end clock (Ok (Tick time)) = in_session end clock time (Ok tt)
screened ids end clock (Ok (Quoted q)) = in_session end clock q.time (quote_answer ids q)

unfoldable pub verdict : State → ReadEvent → EventAnswer
verdict s e = screened (session_ids s) s.end s.clock e

-- ---- what an accepted one does, after the shifts that it calls for
abbrev pub with_book : Line → Price → Price → Line
with_book l bid ask =
    record { terms = l.terms; market = l.market; limits = l.limits; book = record { bid = bid; ask = ask }; holds = l.holds }

unfoldable pub quoted_line : Millionths → ℕ → Quote → Line → Line
quoted_line near left q l = judge_line near left q.time (with_book l q.bid q.ask)

-- the line of the quote's id
unfoldable pub quoted : Millionths → ℕ → Quote → List Line → List Line
quoted near left q [] = []
quoted near left q (l ∷ ls) = cond (eqb l.terms.id q.id) (quoted_line near left q l ∷ ls) (l ∷ quoted near left q ls)

unfoldable pub applied : ReadEvent → State → State
applied (Err why) s = s
applied (Ok (Tick time)) s = with_lines s s.lines s.left time
applied (Ok (Quoted q)) s = with_lines s (quoted s.near s.left q s.lines) s.left q.time

-- the state after an answer (METHOD 19.3, 19.4)
unfoldable pub next : State → ReadEvent → Answer → State
next s e (accepted cs) = applied e (after cs s)
next s e (refused why) = s
