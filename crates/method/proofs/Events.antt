-- What a byte string read as an event tells, what an accepted event tells, and that a shift changes no verdict. Assumes nothing.
use Rattle.std.specs.Prelude.{Ok, Err}
use mathlib.Core.Path.{◌≡◌, refl, ap, ◌∙◌}
use mathlib.Core.Bool.{Bool, true, false}
use mathlib.Core.List.{List, [], ◌∷◌, map}
use Prim.Native.Nat.{ℕ, ◌-◌}
use native.Mathlib.Omega.{arith}
use lib.Dec.{leb}
use lib.IntN.{ℤ}
use borrow.Author.Tests.{leb-true}
use Rattle.numbers.specs.Ranges.{Within, Between}
use Rattle.method.specs.words.Types.{Side, Seconds, Millionths, Line, ShiftLine, State, EventReason, EventAnswer}
use Rattle.method.specs.words.Ranges.{largest_quote}
use Rattle.method.specs.computed.Types.{ReadEvent, Tick, Quoted}
use Rattle.method.specs.computed.Opening.{ids}
use Rattle.method.specs.computed.Judge.{judge_line}
use Rattle.method.specs.computed.Shift.{moved_line, shift_line, shifted, onward, after}
use Rattle.method.specs.computed.Event.{price_of, read, in_session, quote_answer, screened, verdict}
use Rattle.method.specs.computed.Relation.{time}
use Rattle.method.specs.computed.Rooms.{PriceIn, EventIn}
use Rattle.method.proofs.Demands.{met_by}
use Rattle.method.proofs.EventAnswered.{Says, says}

-- ---- the prices that are read lie within 2,000,000,000
price_in : (present : Bool) (z : ℤ) → (present ≡ true → Within largest_quote z) → PriceIn (price_of present z)
unfolding PriceIn
price_in true z r = r refl
price_in false z r = tt

pub read_in : (b : List ℕ) → EventIn (read b)
unfolding EventIn
read_in b = go (says b)
  where
    go : {e : ReadEvent} → Says b e → EventIn e
    go (Says.says_nothing n m) = tt
    go (Says.says_absent l n) = tt
    go (Says.says_beyond l a n) = tt
    go (Says.says_tick t) = tt
    go (Says.says_quote q) = (price_in _ _ q.prices.bid, price_in _ _ q.prices.ask)

-- ---- an accepted event's time lies between the clock and session end
pub not-accepted : {why : EventReason} → ◌≡◌ {A = EventAnswer} (Err why) (Ok tt) → ⊥
not-accepted e = let z : ◌≡◌ {A = ℕ} 0 1 = cc in omega arith

pub in_session_met : (s : State) (t : Seconds) (rest : EventAnswer) → in_session s.end s.clock t rest ≡ Ok tt
    → Between s.clock.0 s.end.0 t.0 × (rest ≡ Ok tt)
unfolding in_session
in_session_met s t rest e =
    let late = met_by (leb t.0 s.end.0) not-accepted e in
    let early = met_by (leb s.clock.0 t.0) not-accepted late.1 in
    (record { least = leb-true s.clock.0 t.0 early.0; most = leb-true t.0 s.end.0 late.0 }, early.1)

pub on_time : (s : State) (e : ReadEvent) → verdict s e ≡ Ok tt → Between s.clock.0 s.end.0 (time e).0
unfolding verdict screened
on_time s (Err why) h = absurd (not-accepted h)
on_time s (Ok (Tick t)) h = (in_session_met s t _ h).0
on_time s (Ok (Quoted q)) h = (in_session_met s q.time _ h).0

-- ---- a shift leaves clock, end and ids, and so every verdict
pub ids-shifted : (near : Millionths) (left : ℕ) (side : Side) (now : Seconds) (ls : List Line) → ids (map (shift_line near left side now) ls) ≡ ids ls
unfolding shift_line judge_line moved_line
ids-shifted near left side now [] = refl
ids-shifted near left side now (l ∷ ls) = ap (λ (js : List ℕ). l.terms.id ∷ js) (ids-shifted near left side now ls)

verdict-shifted : (side : Side) (now : Seconds) (s : State) (e : ReadEvent) → verdict (shifted side now s) e ≡ verdict s e
unfolding verdict screened quote_answer in_session shifted
verdict-shifted side now s (Err why) = refl
verdict-shifted side now s (Ok (Tick t)) = refl
verdict-shifted side now s (Ok (Quoted q)) = rw (ids-shifted s.near (s.left - 1) side now s.lines)

pub verdict-after : (cs : List ShiftLine) (s : State) (e : ReadEvent) → verdict (after cs s) e ≡ verdict s e
unfolding after
verdict-after [] s e = refl
verdict-after (c ∷ cs) s e = verdict-after cs (onward s c) e ∙ verdict-shifted c.side c.second s e
