-- A second before which no hold falls due: nothing is served before it. Assumes nothing.
use Rattle.std.specs.Prelude.{None, Some, Ok}
use mathlib.Core.Path.{◌≡◌, refl, sym, ap, ◌∙◌}
use mathlib.Core.Bool.{Bool, true, false, cond}
use mathlib.Core.List.{List, [], ◌∷◌}
use Prim.Native.Nat.{ℕ, zero, suc, ◌+◌, ◌≤◌, ◌<◌}
use native.Mathlib.Numerals.{add-one}
use native.Mathlib.Omega.{arith}
use borrow.Author.Tests.{eqb-true, eqb-false, ltb-true, ltb-false}
use lib.Dec.{eqb, ltb}
use lib.ListN.{length, get_or, set, drop, drop_of_length-le}
use lib.Seq.{get_or-set_same, get_or-set_other, drop-cons}
use Rattle.method.specs.words.Types.{State, blank, seconds}
use Rattle.method.specs.words.Holds.{hold_of}
use Rattle.method.specs.words.Holds.{Stands, Done}
use Rattle.method.specs.computed.Shift.{after}
use Rattle.method.specs.computed.Event.{applied}
use Rattle.method.specs.computed.Relation.{Calls}
use Rattle.method.specs.computed.Search.{served_by}
use Rattle.method.proofs.HoldLife.{Judged, no_since, blank_idle}
use Rattle.method.proofs.Serving.{served-one}
use Rattle.method.proofs.Head.{applied-kept}
use Rattle.corridor.specs.declared.Session.{Session}
use Rattle.corridor.specs.View.{view, Valid}
use Rattle.corridor.specs.Reply.{served_as}
use Rattle.corridor.proofs.Views.{put_view}
use Rattle.feeding.specs.Names.{Seconds, Side, Up, Down, Hold, Holds, Line, Quote, Tick, Quoted, Due}
use Rattle.feeding.specs.Quiet.{quiet_until}
use Rattle.due.specs.Quiet.{nearer, until, until_all}

pub record Quiet (q : Seconds) (s : State) : Type 0 where
  pub none_before : (x : Due) → Stands s x → q.0 ≤ x.second.0

-- from the start on
pub quiet_start : (s : State) → Quiet (seconds 0) s
quiet_start s = record { none_before = λ x k. omega arith }

pub quiet_serves : (q t : Seconds) (s : State) → Judged s → Quiet q s → t.0 < q.0 → served_by t s ≡ []
quiet_serves q t s j h g = served-one t s [] j (unfold Calls in none)
  where
    none : Done t s
    none = unfold Done in λ x k e. let r = h.none_before x k in omega arith

-- ---- holds that are passed bring it forward, to their second at least
nearer_less : (q w : Seconds) (h : Hold) → (nearer q w h).0 ≤ q.0
unfolding nearer
nearer_less q w None = omega arith
nearer_less q w (Some start) = go (ltb (start.0 + w.0) q.0) refl
  where
    go : (b : Bool) → ltb (start.0 + w.0) q.0 ≡ b → (cond b (seconds (start.0 + w.0)) q).0 ≤ q.0
    go true e = let r = ltb-true (start.0 + w.0) q.0 e in omega arith
    go false e = omega arith

nearer-due : (q w : Seconds) (h : Hold) (start : Seconds) → h ≡ Some start → (nearer q w h).0 ≤ start.0 + w.0
unfolding nearer
nearer-due q w h start e = rw e (go (ltb (start.0 + w.0) q.0) refl)
  where
    go : (b : Bool) → ltb (start.0 + w.0) q.0 ≡ b → (cond b (seconds (start.0 + w.0)) q).0 ≤ start.0 + w.0
    go true e = omega arith
    go false e = let r = ltb-false (start.0 + w.0) q.0 e in omega arith

until_less : (q w : Seconds) (h : Holds) → (until q w h).0 ≤ q.0
until_less q w h = let up = nearer_less q w h.up in let down = nearer_less (nearer q w h.up) w h.down in omega arith

until-due : (q w : Seconds) (h : Holds) (side : Side) (start : Seconds) → hold_of side h ≡ Some start → (until q w h).0 ≤ start.0 + w.0
until-due q w h Up start e =
    let up = nearer-due q w h.up start e in let down = nearer_less (nearer q w h.up) w h.down in omega arith
until-due q w h Down start e = nearer-due (nearer q w h.up) w h.down start e

-- ---- over all lines: those from i on, with the second so far, give what all give
abbrev pub Until : Seconds → List Line → ℕ → Seconds → Type 0
Until wait rows i q = until_all q wait (drop i rows) ≡ until_all (seconds 4_294_967_295) wait rows

pub until_turn : (wait : Seconds) (rows : List Line) (i : ℕ) (q more : Seconds) → i < length rows → more ≡ until q wait (get_or rows i blank).holds
    → Until wait rows i q → Until wait rows (i + 1) more
unfolding until_all
until_turn wait rows i q more h e p = rw (e, add-one) (rw (drop-cons rows i blank h) at p)

pub until_end : (wait : Seconds) (rows : List Line) (i : ℕ) (q : Seconds) → length rows ≤ i → Until wait rows i q
    → q ≡ until_all (seconds 4_294_967_295) wait rows
unfolding until_all
until_end wait rows i q h p = rw (drop_of_length-le rows h) at p

all_less : (q w : Seconds) (ls : List Line) → (until_all q w ls).0 ≤ q.0
unfolding until_all
all_less q w [] = omega arith
all_less q w (l ∷ ls) = let here = until_less q w l.holds in let rest = all_less (until q w l.holds) w ls in omega arith

all_due : (q w : Seconds) (ls : List Line) (p : ℕ) (side : Side) (start : Seconds) → hold_of side (get_or ls p blank).holds ≡ Some start
    → (until_all q w ls).0 ≤ start.0 + w.0
unfolding until_all
all_due q w [] p side start e = absurd (no_since (sym (blank_idle side) ∙ e))
all_due q w (l ∷ ls) zero side start e =
    let here = until-due q w l.holds side start e in let rest = all_less (until q w l.holds) w ls in omega arith
all_due q w (l ∷ ls) (suc p) side start e = all_due (until q w l.holds) w ls p side start e

-- the hold that goes first
pub quiet_first : (s : State) → Quiet (quiet_until s) s
quiet_first s =
    record {
      none_before = λ x k. let r = all_due (seconds 4_294_967_295) s.hold s.lines x.place x.side k.start k.held in omega (arith, k.due);
    }

-- ---- after an event: a tick leaves the holds, and a quote changes those of its line
pub quiet_tick : (q t : Seconds) (s : State) → Quiet q s → Quiet q (applied (Ok (Tick t)) s)
unfolding applied
quiet_tick q t s h = record { none_before = λ x k. h.none_before x (record { start = k.start; held = k.held; due = k.due }) }

pub quiet_quoted : (q : Seconds) (s : State) (e : Quote) (p : ℕ) (m : Line) → p < length s.lines → (applied (Ok (Quoted e)) s).lines ≡ set s.lines p m → Quiet q s
    → Quiet (until q s.hold m.holds) (applied (Ok (Quoted e)) s)
quiet_quoted q s e p m below lines h = record { none_before = λ x k. go x k (eqb x.place p) refl }
  where
    wait : (applied (Ok (Quoted e)) s).hold ≡ s.hold
    wait = (applied-kept (Ok (Quoted e)) s).hold

    go : (x : Due) (k : Stands (applied (Ok (Quoted e)) s) x) → (b : Bool) → eqb x.place p ≡ b → (until q s.hold m.holds).0 ≤ x.second.0
    go x k true here =
        let held : hold_of x.side m.holds ≡ Some k.start =
        ap (λ (l : Line). hold_of x.side l.holds) (sym (ap (λ (ls : List Line). get_or ls x.place blank) lines ∙ ap (λ (n : ℕ). get_or (set s.lines p m) n blank) (eqb-true x.place p here) ∙ get_or-set_same s.lines p m blank below)) ∙ k.held in
        let due : x.second.0 ≡ k.start.0 + s.hold.0 = rw wait at k.due in
        let r = until-due q s.hold m.holds x.side k.start held in
        omega arith
    go x k false other =
        let held : hold_of x.side (get_or s.lines x.place blank).holds ≡ Some k.start =
        ap (λ (l : Line). hold_of x.side l.holds) (sym (ap (λ (ls : List Line). get_or ls x.place blank) lines ∙ get_or-set_other s.lines p x.place m blank (eqb-false x.place p other))) ∙ k.held in
        let due : x.second.0 ≡ k.start.0 + s.hold.0 = rw wait at k.due in
        let r = h.none_before x (record { start = k.start; held = held; due = due }) in
        omega (arith, until_less q s.hold m.holds)

-- ---- where nothing is served the session is left as it is
pub idle : (s : Session) (t : Seconds) → Valid s → served_by t (view s) ≡ [] → s ≡ served_as s (served_by t (view s))
unfolding after
idle s t v e = rw e (sym (put_view v))
