-- An event that is refused, and one that is taken. Assumes nothing.
use Rattle.std.specs.Prelude.{Option, None, Some, Ok, Err}
use mathlib.Core.Path.{◌≡◌, refl, subst, ap, ◌∙◌}
use mathlib.Core.List.{List, [], ◌∷◌}
use Prim.Native.Nat.{ℕ, suc, ◌<◌}
use native.Mathlib.Omega.{arith}
use lib.Dec.{eqb}
use lib.ListN.{length, get_or, set, drop, get_or-append, length-set}
use lib.Seq.{set-append_left}
use Rattle.method.specs.words.Types.{State, blank}
use Rattle.method.specs.words.Sessions.{Answer}
use Rattle.method.specs.computed.Head.{with_lines}
use Rattle.method.specs.computed.Shift.{after}
use Rattle.method.specs.computed.Event.{read, verdict, with_book, quoted_line, quoted, applied, next}
use Rattle.method.specs.computed.Relation.{time}
use Rattle.method.specs.computed.Search.{served_by, answer, finally}
use Rattle.method.specs.computed.Rooms.{PriceIn, EventIn}
use Rattle.method.proofs.Demands.{by_cond}
use Rattle.method.proofs.Events.{read_in}
use Rattle.verdict.specs.declared.PlacedQuote.{PlacedQuote}
use Rattle.verdict.specs.declared.Taken.{Taken}
use Rattle.pressure.specs.Asks.{JudgeableLine}
use Rattle.shifts.proofs.Rooms.{room_quotes}
use Rattle.corridor.specs.Names.{Seconds, Millionths, Line, ShiftLine, Quote, ReadEvent, Tick, Quoted, EventReason}
use Rattle.corridor.specs.declared.Session.{Session}
use Rattle.corridor.specs.View.{view, put, Ranged, Valid, moved_on}
use Rattle.corridor.specs.Applied.{lines_after, Applies}
use Rattle.corridor.specs.Reply.{Shifts, served_as, shifts_told, left_of}
use Rattle.corridor.proofs.Views.{view-length}
use Rattle.corridor.proofs.Rows.{room_at}
use Rattle.corridor.proofs.Shifting.{after-length}
use Rattle.corridor.proofs.DueServed.{ranged_served}
use Rattle.corridor.proofs.Named.{Named, named-below, named-quoted, named-after}
use Rattle.corridor.proofs.Saying.{Changes, Takes}

-- ---- a verdict's answer
pub refused-is : (s : Session) (e : ReadEvent) (why : EventReason) → verdict (view s) e ≡ Err why → answer (view s) e ≡ Answer.refused why
unfolding answer
refused-is s e why h = rw h

pub accepted-is : (s : Session) (e : ReadEvent) → verdict (view s) e ≡ Ok tt → answer (view s) e ≡ Answer.accepted (served_by (time e) (view s))
unfolding answer
accepted-is s e h = rw h

-- ---- taken: what is due is served first, and the event applied then
-- a line set among the first rows is set in the state
put-set : (s : Session) (x : State) (p : ℕ) (m : Line) (t : Seconds) → p < length x.lines
    → moved_on (put s x) (set (put s x).lines p m) t ≡ put s (with_lines x (set x.lines p m) x.left t)
put-set s x p m t h = rw (set-append_left x.lines (drop (length x.lines) s.lines) p m h, length-set x.lines p m)

-- the prices of a quote that is read
pub quote_in : (b : List ℕ) (q : Quote) → read b ≡ Ok (Quoted q) → PriceIn q.bid × PriceIn q.ask
unfolding EventIn
quote_in b q said = subst EventIn said (read_in b)

-- what a quote asks of its line, in the session served
pub quote_asks : (s : Session) (t : Seconds) (q : Quote) (p : ℕ) (z : Session) → Valid s → Named q.id (view s).lines p → PriceIn q.bid × PriceIn q.ask
    → z ≡ served_as s (served_by t (view s)) → JudgeableLine z.near (with_book (get_or z.lines p blank) q.bid q.ask)
quote_asks s t q p z v named i ez = rw ez (go (ranged_served s t v))
  where
    x : State
    x = after (served_by t (view s)) (view s)

    go : Ranged (put s x) → JudgeableLine x.near (with_book (get_or (put s x).lines p blank) q.bid q.ask)
    go w = room_quotes x.near q.bid q.ask w.sane.near.most i.0 i.1
        (room_at p w (omega (arith, named-below q.id (view s).lines p named, after-length (served_by t (view s)) (view s))))

pub applies : (s : Session) (b : List ℕ) (v : Taken) (t : Seconds) (z : Session) → Valid s → Takes (view s) (read b) v
    → z ≡ served_as s (served_by t (view s)) → Applies z v.change
applies s b v t z w o ez = go v.change o.changes
  where
    go : (c : Option PlacedQuote) → Changes (view s) (read b) c → Applies z c
    go None said = tt
    go (Some p) (said, named) = (
      omega (arith, named-below p.quote.id (view s).lines p.place named, view-length w, w.few),
      quote_asks s t p.quote p.place z w named (quote_in b p.quote said) ez,
    )

quote_changed : (s : Session) (x : State) (q : Quote) (p : ℕ) → Named q.id x.lines p
    → moved_on (put s x) (set (put s x).lines p (quoted_line x.near x.left q (get_or (put s x).lines p blank))) q.time ≡ put s (applied (Ok (Quoted q)) x)
unfolding applied
quote_changed s x q p named =
    let below = named-below q.id x.lines p named in
    rw (get_or-append x.lines (drop (length x.lines) s.lines) blank p below, named-quoted x.near x.left q x.lines p named)
    (put-set s x p (quoted_line x.near x.left q (get_or x.lines p blank)) q.time below)

changed : (s : Session) (x : State) (e : ReadEvent) (c : Option PlacedQuote) → Changes x e c → moved_on (put s x) (lines_after (put s x) c) (time e) ≡ put s (applied e x)
changed s x e None said = rw said (unfold applied in refl)
changed s x e (Some p) (said, named) = rw said (quote_changed s x p.quote p.place named)

pub changes_after : (cs : List ShiftLine) (s : State) (e : ReadEvent) (c : Option PlacedQuote) → Changes s e c → Changes (after cs s) e c
changes_after cs s e None said = said
changes_after cs s e (Some p) (said, named) = (said, named-after p.quote.id cs s p.place named)

-- what is answered, where an event is taken
pub taken-told : (s : Session) (e : ReadEvent) (v : Taken) (r : Shifts) → Takes (view s) e v → r.items ≡ served_by v.time (view s)
    → Ok r ≡ shifts_told (answer (view s) e)
unfolding shifts_told
taken-told s e v r o er = rw (accepted-is s e o.accepted, ← o.timed, ← er) refl

-- x is the session served; z, with what the event changes and its time, is the one that is left
pub event-taken : (s : Session) (e : ReadEvent) (v : Taken) (x : Session) → Takes (view s) e v → x ≡ served_as s (served_by v.time (view s)) → (c : Option PlacedQuote)
    → v.change ≡ c → (z : Session) → z ≡ moved_on x (lines_after x c) v.time → z ≡ left_of s e (answer (view s) e)
unfolding left_of next
event-taken s e v x o ex c ec z ez =
    let cs = served_by (time e) (view s) in
    rw (ez, ex, o.timed, accepted-is s e o.accepted)
    (changed s (after cs (view s)) e c (changes_after cs (view s) e c (subst (Changes (view s) e) ec o.changes)))

-- ---- an event changes no number of lines
quoted-length : (near : Millionths) (left : ℕ) (q : Quote) (ls : List Line) → length (quoted near left q ls) ≡ length ls
unfolding quoted
quoted-length near left q [] = refl
quoted-length near left q (l ∷ ls) =
    by_cond (λ (zs : List Line). length zs ≡ suc (length ls)) (eqb l.terms.id q.id) (λ e. refl) (λ e. ap suc (quoted-length near left q ls))

applied-length : (e : ReadEvent) (s : State) → length (applied e s).lines ≡ length s.lines
unfolding applied
applied-length (Err why) s = refl
applied-length (Ok (Tick t)) s = refl
applied-length (Ok (Quoted q)) s = quoted-length s.near s.left q s.lines

pub next-length : (s : State) (e : ReadEvent) (cs : List ShiftLine) → length (next s e (Answer.accepted cs)).lines ≡ length s.lines
unfolding next
next-length s e cs = applied-length e (after cs s) ∙ after-length cs s

kept : (s : State) (e : ReadEvent) (a : Answer) → length (next s e a).lines ≡ length s.lines
kept s e (Answer.accepted cs) = next-length s e cs
kept s e (Answer.refused why) = unfold next in refl

pub finally-kept : (s : State) (bs : List (List ℕ)) → length (finally s bs).lines ≡ length s.lines
unfolding finally
finally-kept s [] = refl
finally-kept s (b ∷ bs) = finally-kept (next s (read b) (answer s (read b))) bs ∙ kept s (read b) (answer s (read b))
