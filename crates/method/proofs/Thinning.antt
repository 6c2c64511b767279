-- What a list is less some of its events: less none, less refused ones, less one that tells nothing new and was put in; and that it comes to the
-- same as the whole. Assumes nothing.
use Rattle.std.specs.Prelude.{Ok}
use mathlib.Core.Path.{◌≡◌, refl, sym, ap, ◌∙◌, subst}
use mathlib.Core.List.{List, [], ◌∷◌, ◌++◌, append_assoc}
use Prim.Native.Nat.{ℕ, ◌≤◌}
use Rattle.method.specs.words.Types.{ShiftLine, State}
use Rattle.method.specs.words.Ranges.{Every}
use Rattle.method.specs.words.Events.{EventAnswered}
use Rattle.method.specs.words.Sessions.{Answer, accepted, refused, joined, Follows, AnswersInWords, no_more, taken, turned_away}
use Rattle.method.specs.laws.Ticks.{Accepts, Refuses, Put, TwoLooksAreOne, Same, Thinned, none, kept, dropped_refused, dropped_free}
use Rattle.method.specs.computed.Event.{read, verdict, next}
use Rattle.method.specs.computed.Relation.{time, Right}
use Rattle.method.specs.computed.Search.{served_by, answer, run, finally}
use Rattle.method.specs.computed.Sound.{Proper}
use Rattle.method.proofs.Every.{every_weaker}
use Rattle.method.proofs.EventAnswered.{event_answered, answered_verdict}
use Rattle.method.proofs.Serving.{served_calls}
use Rattle.method.proofs.Books.{accepted-time}
use Rattle.method.proofs.Repeats.{Still, still_read}
use Rattle.method.proofs.Looks.{taken-later, taken-sooner, two_looks}
use Rattle.method.proofs.OneSession.{follows_right, right_follows, follows_one, taken_not_refused, words_one, told-from, run_in_words}

-- ---- one event
accepts : (s : State) (b : List ℕ) → verdict s (read b) ≡ Ok tt → Accepts s b
accepts s b v = subst (EventAnswered s b) v (event_answered s b)

proper_next : {s m : State} {b : List ℕ} {cs : List ShiftLine} → Proper s → Follows s b cs m → Proper m
proper_next {s} p f = (told-from s p (taken f no_more)).proper

pub two_looks_are_one : TwoLooksAreOne
unfolding Right
two_looks_are_one s m n b f cs ds p new h k =
    let r = follows_right s p.sound p.distinct b cs h in
    let w = proper_next p h in
    let q = follows_right m w.sound w.distinct f ds k in
    let late : Right (next s (read b) (accepted cs)) (read f) (accepted ds)
    = subst (λ (j : State). Right j (read f) (accepted ds)) r.1 q.0 in
    let one = two_looks s p.sound (read b) (read f) cs (still_read s b new) r.0.0 ds r.0.1 late in
    let e : n ≡ next s (read f) (accepted (cs ++ ds)) = q.1 ∙ ap (λ (j : State). next j (read f) (accepted ds)) r.1 ∙ sym one.1 in
    rw e (right_follows s p.sound p.distinct f (cs ++ ds) one.0)

-- an accepted event has its shift lines
record Taken (s : State) (b : List ℕ) : Type 0 where
  cs : List ShiftLine
  state : State
  follows : Follows s b cs state

takes : (s : State) (b : List ℕ) → Proper s → Accepts s b → Taken s b
takes s b p a =
    let cs : List ShiftLine = served_by (time (read b)) s in
    let r : Right s (read b) (accepted cs)
    = unfold Right in (answered_verdict s b a, served_calls (time (read b)) s p.sound.exact) in
    record { cs = cs; state = next s (read b) (accepted cs); follows = right_follows s p.sound p.distinct b cs r }

-- ---- less none
pub after-past : {o s : State} {past : List (List ℕ)} {told : List Answer} {bs ds : List (List ℕ)} → AnswersInWords o past told s → Thinned s bs ds
    → Thinned o (past ++ bs) (past ++ ds)
after-past no_more t = t
after-past (taken f r) t = kept (taken f no_more) (after-past r t)
after-past (turned_away v r) t = kept (turned_away v no_more) (after-past r t)

pub whole : (s : State) (bs : List (List ℕ)) → Proper s → Thinned s bs bs
whole s [] p = none
whole s (b ∷ bs) p =
    let h : AnswersInWords s (b ∷ []) (answer s (read b) ∷ []) (finally s (b ∷ [])) = unfold run in run_in_words s p.sound p.distinct (b ∷ []) in
    kept h (whole (finally s (b ∷ [])) bs (told-from s p h).proper)

-- ---- less refused ones
pub without-refused : (s : State) (between : List (List ℕ)) {bs ds : List (List ℕ)} → Every (Refuses s) between → Thinned s bs ds
    → Thinned s (between ++ bs) ds
unfolding Every
without-refused s [] n t = t
without-refused s (b ∷ between) n t = dropped_refused n.0 (without-refused s between n.1 t)

-- ---- less the event that is put in
pub with_it : (s : State) (b : List ℕ) (between : List (List ℕ)) (f : List ℕ) (rest : List (List ℕ)) → Proper s → Put s b between f
    → Thinned s (b ∷ between ++ f ∷ rest) (f ∷ rest)
with_it s b between f rest p put =
    let took = takes s b p put.acceptable in
    let m : State = took.state in
    let e : m ≡ next s (read b) (accepted took.cs) = (follows_right s p.sound p.distinct b took.cs took.follows).1 in
    let still : Still s (read b) = still_read s b put.nothing_new in
    let a = answered_verdict s b put.acceptable in
    let c = answered_verdict s f put.later in
    let l : (time (read b)).0 ≤ (time (read f)).0 = rw (accepted-time s b a, accepted-time s f c) put.to_the_later in
    let later : verdict m (read f) ≡ Ok tt = rw e (taken-later s p.sound (read b) (read f) took.cs still a l c) in
    let sooner : (d : List ℕ) → Accepts m d → Accepts s d
    = λ d y. accepts s d (taken-sooner s p.sound (read b) (read d) took.cs still a (rw e at (answered_verdict m d y))).1 in
    let refused_still = every_weaker (Refuses s) (Refuses m) (λ d n y. n (sooner d y)) between put.between_refused in
    dropped_free put.nothing_new took.follows
    (without-refused m between refused_still (whole m (f ∷ rest) (proper_next p took.follows))) (accepts m f later)

-- ---- the same
-- the answers of the thinned list, from those of the whole
record Less (s : State) (ds : List (List ℕ)) (rs : List Answer) (n : State) : Type 0 where
  qs : List Answer
  answers : AnswersInWords s ds qs n
  lines : joined rs ≡ joined qs

less : {s n : State} {bs ds : List (List ℕ)} {rs : List Answer} → Proper s → Thinned s bs ds → AnswersInWords s bs rs n → Less s ds rs n
unfolding joined
less p none no_more = record { qs = []; answers = no_more; lines = refl }
less {s} {n} p (kept {bs = bs} (taken {cs = cs} g no_more) t) (taken {rs = rs} f r) =
    let one = follows_one f g in
    let more = less (proper_next p g) t (subst (λ (j : State). AnswersInWords j bs rs n) one.1 r) in
    record { qs = accepted cs ∷ more.qs; answers = taken g more.answers; lines = λ i. one.0 i ++ more.lines i }
less p (kept (taken g no_more) t) (turned_away v r) = absurd (taken_not_refused g.taken v)
less p (kept (turned_away q no_more) t) (taken f r) = absurd (taken_not_refused f.taken q)
less p (kept (turned_away {why = why} q no_more) t) (turned_away v r) =
    let more = less p t r in record { qs = refused why ∷ more.qs; answers = turned_away q more.answers; lines = more.lines }
less p (dropped_refused n t) (taken f r) = absurd (n f.taken)
less p (dropped_refused n t) (turned_away v r) = let more = less p t r in record { qs = more.qs; answers = more.answers; lines = more.lines }
less p (dropped_free new g t a) (turned_away v r) = absurd (taken_not_refused g.taken v)
less {s} {n} p (dropped_free {m = m} {b} {f} {cs} {bs} {ds} new g t a) (taken {cs = first} {rs = rs} h r) =
    let one = follows_one h g in
    let more = less (proper_next p g) t (subst (λ (j : State). AnswersInWords j bs rs n) one.1 r) in
    go one.0 more.answers more.lines
  where
    go : {qs : List Answer} → first ≡ cs → AnswersInWords m (f ∷ ds) qs n → joined rs ≡ joined qs → Less s (f ∷ ds) (accepted first ∷ rs) n
    go e (turned_away v k) l = absurd (taken_not_refused a v)
    go e (taken {m = last} {cs = es} {rs = qs} q k) l =
        record {
          qs = accepted (cs ++ es) ∷ qs;
          answers = taken (two_looks_are_one s m last b f cs es p new g q) k;
          lines = (λ i. e i ++ l i) ∙ sym (append_assoc cs es (joined qs));
        }

pub thinned_same : {s : State} {bs ds : List (List ℕ)} → Proper s → Thinned s bs ds → Same s bs ds
thinned_same p t rs qs m n h k =
    let its = less p t h in
    let e = words_one its.answers k in
    (its.lines ∙ ap joined e.0, e.1)
