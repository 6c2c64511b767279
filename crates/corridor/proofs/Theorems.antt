-- A theorem for each statement of specs/Handed. Assumes nothing.
use Rattle.std.specs.Prelude.{Ok, Err}
use mathlib.Core.Path.{◌≡◌, refl, sym, ap, subst, ◌∙◌}
use mathlib.Core.List.{List, [], ◌∷◌}
use Prim.Native.Nat.{ℕ}
use native.Mathlib.Omega.{arith}
use Rattle.method.specs.words.Types.{State, session_ids}
use Rattle.method.specs.words.Tables.{Opening, opened}
use Rattle.method.specs.words.Sessions.{Answer, accepted, refused}
use Rattle.method.specs.told.Refusals.{table_said, event_said}
use Rattle.method.specs.computed.Table.{opening}
use Rattle.method.specs.computed.Event.{read, next}
use Rattle.method.specs.computed.Relation.{Right, Answers}
use Rattle.method.specs.computed.Search.{answer, run}
use Rattle.method.specs.computed.Rooms.{OpeningIn}
use Rattle.method.specs.computed.Sound.{Sound, Distinct}
use Rattle.method.proofs.Table.{accepted-table}
use Rattle.method.proofs.Sane.{sane-opening}
use Rattle.method.proofs.Books.{distinct-opening}
use Rattle.method.proofs.Answers.{sound-opening, next-sound, run-right}
use Rattle.method.proofs.Later.{sane-next}
use Rattle.corridor.specs.Names.{TableRefusal, EventReason}
use Rattle.corridor.specs.declared.Session.{Session}
use Rattle.corridor.specs.View.{view, put, no_session, opened_session, left_by_open, Valid}
use Rattle.corridor.specs.Reply.{Shifts, shifts_told, left_of}
use Rattle.corridor.specs.Handed.{opened_by, OpenValid, RefusedOpensNone, EventValid, OpenSays, EventSays}
use Rattle.corridor.proofs.Views.{view-length, valid-put}
use Rattle.corridor.proofs.Ids.{ids_next}
use Rattle.corridor.proofs.Events.{next-length}

-- ---- a table
err-ok : {A E : Type 0} {a : A} {e : E} → Err e ≡ Ok a → ⊥
err-ok e = cc

pub valid_open : OpenValid
unfolding opened_session
valid_open b s e = go (opening b) (λ s q. (accepted-table b s q).state) (λ s q. sound-opening b s q) (λ s q. distinct-opening b s q) e
  where
    go : (x : Opening) → ((s : State) → x ≡ opened s → OpeningIn s) → ((s : State) → x ≡ opened s → Sound s)
        → ((s : State) → x ≡ opened s → Distinct (session_ids s)) → opened_session x ≡ Ok s → Valid s
    go (opened x) i o d e =
        let made : put no_session x ≡ s = cc in
        subst Valid made (valid-put no_session x refl (i x refl).count.most (sane-opening x (i x refl)) (o x refl) (d x refl))
    go (Opening.refused why line) i o d e = absurd (err-ok e)

-- the same of what `open` hands back
pub valid-opened : (b : List ℕ) {s : Session} → Ok s ≡ opened_by b → Valid s
valid-opened b {s} e = valid_open b s (sym e)

-- what `open` hands back is what a memory holds in which it is written
pub opened-left : (b : List ℕ) {s : Session} → Ok s ≡ opened_by b → left_by_open (opening b) ≡ s
unfolding opened_session left_by_open
opened-left b {s} = go (opening b)
  where
    go : (x : Opening) → Ok s ≡ opened_session x → left_by_open x ≡ s
    go (opened x) e = cc
    go (Opening.refused why line) e = absurd (err-ok (sym e))

pub refused-left : (b : List ℕ) {r : TableRefusal} → Err r ≡ opened_by b → left_by_open (opening b) ≡ no_session
unfolding opened_session left_by_open
refused-left b {r} = go (opening b)
  where
    go : (x : Opening) → Err r ≡ opened_session x → left_by_open x ≡ no_session
    go (opened x) e = absurd (err-ok e)
    go (Opening.refused why line) e = refl

pub refused_opens_none : RefusedOpensNone
refused_opens_none b r e v = let none : Valid no_session = rw (refused-left b (sym e)) at v in omega (arith, none.sound.waits)

-- ---- an event
pub valid-event : EventValid
valid-event s b v = go (answer (view s) (read b)) (unfold run Answers in (run-right (view s) (b ∷ []) v.sound).0)
  where
    go : (a : Answer) → Right (view s) (read b) a → Valid (left_of s (read b) a)
    go (accepted cs) r =
        unfold left_of in
        valid-put s (next (view s) (read b) (accepted cs)) v.full (omega (arith, next-length (view s) (read b) cs, view-length v, v.few))
        (sane-next (view s) v.sane v.sound.exact b (accepted cs) r) (next-sound (view s) (read b) (accepted cs) v.sound r)
        (rw (ids_next (view s) (read b) (accepted cs)) v.distinct)
    go (refused why) r = unfold left_of in v

-- the method's answer, by what is handed out
pub told-ok : (a : Answer) {cs : Shifts} → Ok cs ≡ shifts_told a → a ≡ accepted cs.items
unfolding shifts_told
told-ok (accepted ds) {cs} e = let same : cs ≡ record { items = ds } = cc in ap (λ (r : Shifts). accepted r.items) (sym same)
told-ok (refused why) e = absurd (err-ok (sym e))

pub told-err : (a : Answer) {why : EventReason} → Err why ≡ shifts_told a → a ≡ refused why
unfolding shifts_told
told-err (accepted ds) e = absurd (err-ok e)
told-err (refused why) e = cc

-- ---- what a refusal says
pub open_says : OpenSays
unfolding opened_session table_said
open_says b why line e = rw e refl

pub event_says : EventSays
unfolding shifts_told event_said
event_says s b why e = rw e refl

-- ---- a contract that is an equation leaves one answer
pub one_answer : {A : Type 0} {a b right : A} → a ≡ right → b ≡ right → a ≡ b
one_answer p q = p ∙ sym q
