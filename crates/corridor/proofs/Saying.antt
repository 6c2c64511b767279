-- What a verdict of `screen` says, in the method's words. Assumes nothing.
use Rattle.std.specs.Prelude.{Option, None, Some, Result, Ok, Err}
use mathlib.Core.Path.{◌≡◌, refl}
use mathlib.Core.Bool.{Bool, true, false, cond, ◌||◌, false≢true}
use mathlib.Core.List.{List, [], ◌∷◌}
use Prim.Native.Nat.{ℕ, suc, ◌≤◌}
use borrow.Author.Tests.{eqb-true, eqb-false}
use lib.Dec.{eqb}
use Rattle.method.specs.words.Types.{State, session_ids}
use Rattle.method.specs.told.Questions.{listed}
use Rattle.method.specs.computed.Opening.{ids}
use Rattle.method.specs.computed.Event.{quote_answer, screened, verdict}
use Rattle.method.specs.computed.Relation.{time}
use Rattle.method.proofs.Demands.{met_by}
use Rattle.method.proofs.Events.{not-accepted, in_session_met, on_time}
use Rattle.verdict.specs.declared.PlacedQuote.{PlacedQuote}
use Rattle.verdict.specs.declared.Taken.{Taken}
use Rattle.verdict.specs.Decided.{place_of, change_of, verdict_of, decided}
use Rattle.corridor.specs.Names.{Line, ReadEvent, Tick, Quoted, EventAnswer, EventReason}
use Rattle.corridor.specs.declared.Session.{Session}
use Rattle.corridor.specs.View.{view}
use Rattle.corridor.proofs.Named.{Named}

-- ---- the place of an id
placed-named : (id : ℕ) (ls : List Line) → listed id (ids ls) ≡ true → Named id ls (place_of id (ids ls))
unfolding Named place_of listed
placed-named id [] h = absurd (false≢true h)
placed-named id (l ∷ ls) h = go (eqb l.terms.id id) refl h (placed-named id ls)
  where
    go : (b : Bool) → eqb l.terms.id id ≡ b → (b || listed id (ids ls)) ≡ true → (listed id (ids ls) ≡ true → Named id ls (place_of id (ids ls)))
        → Named id (l ∷ ls) (cond b 0 (suc (place_of id (ids ls))))
    go true e h more = eqb-true _ _ e
    go false e h more = (eqb-false _ _ e, more h)

-- ---- what an event is said to change
abbrev pub Changes : State → ReadEvent → Option PlacedQuote → Type 0
Changes s e None = e ≡ Ok (Tick (time e))
Changes s e (Some p) = (e ≡ Ok (Quoted p.quote)) × Named p.quote.id s.lines p.place

pub record Takes (s : State) (e : ReadEvent) (v : Taken) : Type 0 where
  pub accepted : verdict s e ≡ Ok tt
  pub timed : v.time ≡ time e
  pub in_session : v.time.0 ≤ s.end.0
  pub changes : Changes s e v.change

abbrev pub Says : State → ReadEvent → Result Taken EventReason → Type 0
Says s e (Err why) = verdict s e ≡ Err why
Says s e (Ok v) = Takes s e v

-- a quote that is accepted has its line in the table
changes : (s : State) (e : ReadEvent) → verdict s e ≡ Ok tt → Changes s e (change_of (session_ids s) e)
unfolding verdict screened quote_answer
changes s (Err why) h = absurd (not-accepted h)
changes s (Ok (Tick t)) h = refl
changes s (Ok (Quoted q)) h =
    let known = (met_by (listed q.id (session_ids s)) not-accepted (in_session_met s q.time _ h).1).0 in
    (refl, placed-named q.id s.lines known)

pub says : (s : State) (e : ReadEvent) → Says s e (decided (session_ids s) s.end s.clock e)
unfolding verdict
says s e = go (verdict s e) refl
  where
    go : (a : EventAnswer) → verdict s e ≡ a → Says s e (verdict_of a (record { time = time e; change = change_of (session_ids s) e }))
    go (Err why) h = h
    go (Ok taken) h = record { accepted = h; timed = refl; in_session = (on_time s e h).most; changes = changes s e h }

-- the same, of the ids of a session
pub session_says : (s : Session) {e said : ReadEvent} {js : List ℕ} {v : Result Taken EventReason} → js ≡ session_ids (view s) → said ≡ e → v ≡ decided js s.end s.clock said
    → Says (view s) e v
session_says s {e} same heard ev = rw (ev, heard, same) (says (view s) e)
