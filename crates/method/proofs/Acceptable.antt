-- No standing book of a session is crossed, and so no quote that repeats one is. Assumes nothing.
use Rattle.std.specs.Prelude.{Some, Ok, Err}
use mathlib.Core.Path.{◌≡◌}
use mathlib.Core.Bool.{true}
use mathlib.Core.List.{List}
use Prim.Native.Nat.{ℕ, ◌-◌, ◌≤◌}
use native.Mathlib.Omega.{arith}
use Rattle.numbers.proofs.Tests.{false-le, never_both}
use Rattle.method.specs.words.Types.{Line, ShiftLine, State, steps, session_ids}
use Rattle.method.specs.words.Wire.{word, signed}
use Rattle.method.specs.words.Ranges.{Every}
use Rattle.method.specs.words.Tables.{opened}
use Rattle.method.specs.words.Events.{InSession, IsCrossed, Unknown}
use Rattle.method.specs.words.Books.{BookSaid}
use Rattle.method.specs.words.Sessions.{Answer}
use Rattle.method.specs.laws.Ticks.{Repeats}
use Rattle.method.specs.told.Questions.{listed}
use Rattle.method.specs.computed.Types.{Quote, ReadEvent, Tick, Quoted}
use Rattle.method.specs.computed.Table.{opening}
use Rattle.method.specs.computed.Judge.{judge_line}
use Rattle.method.specs.computed.Shift.{moved_line, shift_line, shifted}
use Rattle.method.specs.computed.Event.{not_crossed, quote_answer, screened, verdict, read, quoted_line, applied}
use Rattle.method.specs.computed.Relation.{Answers, reached}
use Rattle.method.specs.computed.Later.{Later, start, shift, event}
use Rattle.method.specs.computed.Rooms.{LineIn}
use Rattle.method.proofs.Demands.{met_by}
use Rattle.method.proofs.Every.{every_map, every_weaker, every_with, every_quoted, every_to_map}
use Rattle.method.proofs.Table.{accepted-table}
use Rattle.method.proofs.Events.{not-accepted, in_session_met, on_time}
use Rattle.method.proofs.Later.{moment_reached}
use Rattle.method.proofs.Books.{accepted-time}

-- ---- no standing book is crossed
abbrev Open : Line → Type 0
Open l = not_crossed l.book.bid l.book.ask ≡ true

opened_open : (l : Line) → LineIn l → Open l
unfolding not_crossed
opened_open l r = rw r.book

taken_open : (s : State) (q : Quote) → verdict s (Ok (Quoted q)) ≡ Ok tt → not_crossed q.bid q.ask ≡ true
unfolding verdict screened quote_answer
taken_open s q v =
    let its = met_by (listed q.id (session_ids s)) not-accepted (in_session_met s q.time _ v).1 in
    (met_by (not_crossed q.bid q.ask) not-accepted its.1).0

open_applied : (e : ReadEvent) (s : State) → verdict s e ≡ Ok tt → Every Open s.lines → Every Open (applied e s).lines
unfolding applied quoted_line judge_line
open_applied (Err why) s v ps = ps
open_applied (Ok (Tick t)) s v ps = ps
open_applied (Ok (Quoted q)) s v ps = every_quoted s.near s.left q Open (λ l p. taken_open s q v) s.lines ps

open_moment : {o s : State} {cs : List ShiftLine} → Every Open o.lines → Later o cs s → Every Open s.lines
unfolding shifted shift_line judge_line moved_line
open_moment h start = h
open_moment h (shift {s = s} m t c f) =
    every_map Open Open (shift_line s.near (s.left - 1) c.side c.second) (λ l p. p) s.lines (open_moment h m)
open_moment h (event {s = s} m b v) = open_applied (read b) s v (open_moment h m)

-- ---- what repeats an open book is not crossed
crossed-line : (b : List ℕ) (l : Line) → IsCrossed b → BookSaid b l.book → Open l → ⊥
unfolding not_crossed
crossed-line b l c r o =
    let z : not_crossed (Some (steps (signed (word b 12)))) (Some (steps (signed (word b 16)))) ≡ true
    = rw (r.bid.given c.bid, r.ask.given c.ask) at o in
    never_both (false-le c.above) z

pub repeat_open : (table : List ℕ) (o : State) → opening table ≡ opened o → (past : List (List ℕ)) (told : List Answer) → Answers o past told → (b : List ℕ)
    → Repeats (reached o past told) b → (Unknown (reached o past told) b → ⊥) → IsCrossed b → ⊥
repeat_open table o e past told h b r its x =
    let s : State = reached o past told in
    let none : Every Open o.lines = every_weaker LineIn Open opened_open o.lines (accepted-table table o e).state.lines in
    let books : Every Open s.lines = open_moment none (moment_reached past told start h) in
    its (every_to_map (λ i. i ≡ word b 4 → ⊥) (λ (l : Line). l.terms.id) s.lines (every_with _ _ _ (λ l p q i. crossed-line b l x (p i) q) s.lines r.standing books))

-- ---- a time from the clock to that of an accepted event
pub in_session-between : (s : State) (b f : List ℕ) → verdict s (read f) ≡ Ok tt → s.clock.0 ≤ word b 0 → word b 0 ≤ word f 0 → InSession s b
in_session-between s b f a c l =
    let e = (on_time s (read f) a).most in
    let t : word f 0 ≤ s.end.0 = rw (accepted-time s f a) at e in
    record { to_end = omega arith; from_clock = c }
