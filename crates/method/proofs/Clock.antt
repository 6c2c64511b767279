-- Serving does not look at the clock; an accepted event sets it, whatever it was; and a verdict asks of it only that the event does not lie
-- before it. Assumes nothing.
use Rattle.std.specs.Prelude.{Ok, Err}
use mathlib.Core.Path.{◌≡◌, refl}
use mathlib.Core.List.{List, [], ◌∷◌}
use Prim.Native.Nat.{◌≤◌}
use borrow.Author.Tests.{le-leb}
use Rattle.method.specs.words.Types.{Seconds, ShiftLine, Due, State, EventAnswer}
use Rattle.method.specs.words.Holds.{Stands, First, Done}
use Rattle.method.specs.computed.Types.{ReadEvent, Tick, Quoted}
use Rattle.method.specs.computed.Head.{with_lines}
use Rattle.method.specs.computed.Shift.{shifted, onward, after}
use Rattle.method.specs.computed.Event.{in_session, screened, verdict, applied}
use Rattle.method.specs.computed.Relation.{Calls, time}
use Rattle.method.proofs.Events.{not-accepted, in_session_met}

-- the state with its clock set to u; back at its own clock it is the state itself
abbrev pub at-clock : Seconds → State → State
at-clock u s = with_lines s s.lines s.left u

-- ---- serving
stands-clock : (u : Seconds) {s : State} {x : Due} → Stands s x → Stands (at-clock u s) x
stands-clock u k = record { start = k.start; held = k.held; due = k.due }

first-clock : (u : Seconds) {t : Seconds} {s : State} {c : ShiftLine} → First t s c → First t (at-clock u s) c
first-clock u {s = s} f =
    record {
      place = f.place;
      stands = stands-clock u f.stands;
      ahead = λ x k. f.ahead x (stands-clock s.clock k);
      in_time = f.in_time;
      before_end = f.before_end;
      named = f.named;
    }

pub calls_clock : (u t : Seconds) (s : State) (cs : List ShiftLine) → Calls t s cs → Calls t (at-clock u s) cs
unfolding Calls Done shifted
calls_clock u t s [] h = λ x k e. h x (stands-clock s.clock k) e
calls_clock u t s (c ∷ cs) h = (first-clock u h.0, calls_clock u t (onward s c) cs h.1)

pub after_clock : (u : Seconds) (cs : List ShiftLine) (s : State) → after cs (at-clock u s) ≡ at-clock u (after cs s)
unfolding after shifted
after_clock u [] s = refl
after_clock u (c ∷ cs) s = after_clock u cs (onward s c)

-- ---- applying
pub applied_anew : (u : Seconds) (e : ReadEvent) (s r : State) → verdict r e ≡ Ok tt → applied e (at-clock u s) ≡ applied e s
unfolding applied verdict screened
applied_anew u (Err why) s r v = absurd (not-accepted v)
applied_anew u (Ok (Tick t)) s r v = refl
applied_anew u (Ok (Quoted q)) s r v = refl

-- ---- a verdict, at another clock
in_session-clock : (u : Seconds) (s : State) (t : Seconds) (rest : EventAnswer) → u.0 ≤ t.0 → in_session s.end s.clock t rest ≡ Ok tt
    → in_session s.end u t rest ≡ Ok tt
unfolding in_session
in_session-clock u s t rest h e =
    let met = in_session_met s t rest e in
    rw (le-leb t.0 s.end.0 met.0.most, le-leb u.0 t.0 h) met.1

pub verdict-clock : (u : Seconds) (s : State) (e : ReadEvent) → u.0 ≤ (time e).0 → verdict s e ≡ Ok tt
    → verdict (at-clock u s) e ≡ Ok tt
unfolding verdict screened
verdict-clock u s (Err why) h v = absurd (not-accepted v)
verdict-clock u s (Ok (Tick t)) h v = in_session-clock u s t _ h v
verdict-clock u s (Ok (Quoted q)) h v = in_session-clock u s q.time _ h v
