-- Serving, one event and a whole list of byte strings in words: what is computed satisfies them, nothing else does, and a refused event
-- can be struck out. Assumes nothing.
use Rattle.std.specs.Prelude.{Ok, Err}
use mathlib.Core.Path.{◌≡◌, refl, sym, ap, ◌∙◌, subst}
use mathlib.Core.List.{List, [], ◌∷◌, ◌++◌}
use mathlib.Core.Logic.{◌↔◌}
use Prim.Native.Nat.{ℕ, ◌≤◌, ◌<◌}
use native.Mathlib.Omega.{arith}
use Rattle.method.specs.words.Types.{Seconds, ShiftLine, State, EventReason, seconds}
use Rattle.method.specs.words.Wire.{word}
use Rattle.method.specs.words.Ranges.{Every}
use Rattle.method.specs.words.Events.{IsEvent, EventAnswered, tick_taken, quote_taken}
use Rattle.method.specs.words.Holds.{Done}
use Rattle.method.specs.words.Sessions.{Answer, accepted, refused, joined, LineApplied, AppliedTo, Serves, nothing, first, Follows, AnswersInWords, no_more, taken, turned_away, Struck}
use Rattle.method.specs.words.Rules.{Opens}
use Rattle.method.specs.laws.Stages.{Reported}
use Rattle.method.specs.computed.Opening.{ids}
use Rattle.method.specs.computed.Shift.{onward, after}
use Rattle.method.specs.computed.Event.{read, verdict, applied, next}
use Rattle.method.specs.computed.Relation.{Calls, Right, Answers, reached}
use Rattle.method.specs.computed.Search.{run, finally}
use Rattle.method.specs.computed.Later.{start}
use Rattle.method.specs.computed.Sound.{Sound, Distinct, Proper}
use Rattle.method.proofs.Every.{every_weaker, every_append}
use Rattle.method.proofs.Events.{not-accepted}
use Rattle.method.proofs.Table.{accepted-table}
use Rattle.method.proofs.TableAnswered.{answered_table}
use Rattle.method.proofs.Sane.{sane-opening}
use Rattle.method.proofs.EventAnswered.{event_answered, answered_verdict}
use Rattle.method.proofs.HoldLife.{Judged, held-pressed}
use Rattle.method.proofs.Serving.{judged-onward, after-judged, calls_unique, calls_done, first-later}
use Rattle.method.proofs.Answers.{next-sound, sound-opening, sound-reached, run-right, finally-reached}
use Rattle.method.proofs.Books.{SameBook, each_same_book, same_book_after, same-ids, distinct-opening, accepted-time}
use Rattle.method.proofs.Later.{Held, held_moment, moment_reached}
use Rattle.method.proofs.OneStep.{shifted_in_words, applied_in_words, shifted_one, applied-one}

-- ---- serving
pub serves_after : {t : Seconds} {s n : State} {cs : List ShiftLine} → Serves t s cs n → n ≡ after cs s
unfolding after
serves_after nothing = refl
serves_after {t} {s} {n} (first {m = m} {c = c} {cs = cs} f p r) =
    let e : m ≡ onward s c = shifted_one p (shifted_in_words s c (omega (arith, p.left))) in
    subst (λ (k : State). n ≡ after cs k) e (serves_after r)

pub serves_calls : {t : Seconds} {s n : State} {cs : List ShiftLine} → Serves t s cs n → Done t n → Calls t s cs
unfolding Calls
serves_calls nothing d = d
serves_calls {t} {s} {n} (first {m = m} {c = c} {cs = cs} f p r) d =
    let e : m ≡ onward s c = shifted_one p (shifted_in_words s c (omega (arith, p.left))) in
    (f, subst (λ (k : State). Calls t k cs) e (serves_calls r d))

pub calls_serves : (t : Seconds) (s : State) (cs : List ShiftLine) → Judged s → Calls t s cs → Serves t s cs (after cs s)
unfolding Calls after
calls_serves t s [] x h = nothing
calls_serves t s (c ∷ cs) x h =
    let z : 0 < s.left = (held-pressed s c.side h.0.place x h.0.stands.held).0 in
    first h.0 (shifted_in_words s c z) (calls_serves t (onward s c) cs (judged-onward s c) h.1)

-- up to one second, and then up to a later one
pub serves_on : {u t : Seconds} {s m n : State} {cs ds : List ShiftLine} → u.0 ≤ t.0 → Serves u s cs m → Serves t m ds n → Serves t s (cs ++ ds) n
serves_on l nothing k = k
serves_on l (first f p r) k = first (first-later l f) p (serves_on l r k)

-- the rest, after some first ones
pub serves_rest : {t : Seconds} {s m n : State} {cs ds : List ShiftLine} → Serves t s cs m → Serves t s (cs ++ ds) n → Serves t m ds n
serves_rest nothing k = k
serves_rest {t} {n = n} {ds = ds} (first {cs = cs} f p r) (first g q k) =
    serves_rest r (subst (λ (j : State). Serves t j (cs ++ ds) n) (shifted_one q p) k)

-- ---- one event
pub is-event : {s : State} {b : List ℕ} → EventAnswered s b (Ok tt) → IsEvent b
is-event (tick_taken t i) = IsEvent.tick t
is-event (quote_taken q i k c) = IsEvent.quote q

distinct-after : (cs : List ShiftLine) (s : State) → Distinct (ids s.lines) → Distinct (ids (after cs s).lines)
distinct-after cs s d = subst Distinct (same-ids SameBook (λ o l a. a.terms) s.lines (after cs s).lines (same_book_after s.lines cs s (each_same_book s.lines))) d

module _ (s : State) (v : Sound s) (d : Distinct (ids s.lines)) (b : List ℕ) (cs : List ShiftLine) where
  abbrev t : Seconds
  t = seconds (word b 0)

  applied-after : IsEvent b → AppliedTo (after cs s) b (applied (read b) (after cs s))
  applied-after i = applied_in_words (after cs s) b (after-judged cs s v.exact) (distinct-after cs s d) i

  pub follows_right : {n : State} → Follows s b cs n → Right s (read b) (accepted cs) × (n ≡ next s (read b) (accepted cs))
  unfolding Right next
  follows_right {n} f =
      let a : verdict s (read b) ≡ Ok tt = answered_verdict s b f.taken in
      let r = serves_calls f.served f.all_served in
      let p : AppliedTo (after cs s) b n = subst (λ (k : State). AppliedTo k b n) (serves_after f.served) f.applied in
      ((a, rw (accepted-time s b a) r), applied-one (is-event f.taken) p (applied-after (is-event f.taken)))

  pub right_follows : Right s (read b) (accepted cs) → Follows s b cs (next s (read b) (accepted cs))
  unfolding Right next
  right_follows r =
      let a : EventAnswered s b (Ok tt) = subst (EventAnswered s b) r.0 (event_answered s b) in
      let k : Calls t s cs = rw (accepted-time s b r.0) at r.1 in
      record {
        taken = a;
        between = after cs s;
        served = calls_serves t s cs v.exact k;
        all_served = calls_done t s cs k;
        applied = applied-after (is-event a);
      }

-- the ids stay
pub follows_distinct : {s n : State} {b : List ℕ} {cs : List ShiftLine} → Distinct (ids s.lines) → Follows s b cs n → Distinct (ids n.lines)
follows_distinct {s} {n} {b} {cs} d f =
    let k = f.between in
    let m : Distinct (ids k.lines) = rw (serves_after f.served) (distinct-after cs s d) in
    subst Distinct (same-ids (LineApplied k.near k.left b) (λ o l p. p.terms) k.lines n.lines f.applied.lines) m

-- ---- a list of byte strings
pub words_answers : {s n : State} {bs : List (List ℕ)} {rs : List Answer} → Sound s → Distinct (ids s.lines) → AnswersInWords s bs rs n
    → Answers s bs rs × (n ≡ reached s bs rs)
unfolding Answers reached next
words_answers v d no_more = (tt, refl)
words_answers {s} {n} v d (taken {m = m} {b = b} {bs = bs} {cs = cs} {rs = rs} f r) =
    let p = follows_right s v d b cs f in
    let w : Sound m = rw p.1 (next-sound s (read b) (accepted cs) v p.0) in
    let more = subst (λ (k : State). Answers k bs rs × (n ≡ reached k bs rs)) p.1 (words_answers w (follows_distinct d f) r) in
    ((p.0, more.0), more.1)
words_answers {s} {n} v d (turned_away {b = b} {why = why} e r) =
    let more = words_answers v d r in
    ((unfold Right in answered_verdict s b e, more.0), more.1)

pub answers_words : (s : State) (bs : List (List ℕ)) (rs : List Answer) → Sound s → Distinct (ids s.lines) → Answers s bs rs
    → AnswersInWords s bs rs (reached s bs rs)
unfolding Answers reached next
answers_words s [] [] v d h = no_more
answers_words s [] (a ∷ rs) v d h = absurd h
answers_words s (b ∷ bs) [] v d h = absurd h
answers_words s (b ∷ bs) (accepted cs ∷ rs) v d h =
    let f = right_follows s v d b cs h.0 in
    taken f (answers_words (next s (read b) (accepted cs)) bs rs (next-sound s (read b) (accepted cs) v h.0) (follows_distinct d f) h.1)
answers_words s (b ∷ bs) (refused why ∷ rs) v d h =
    let e : verdict s (read b) ≡ Err why = unfold Right in h.0 in
    turned_away (subst (EventAnswered s b) e (event_answered s b)) (answers_words s bs rs v d h.1)

-- ---- at most one, from any state
pub follows_one : {s m n : State} {b : List ℕ} {cs ds : List ShiftLine} → Follows s b cs m → Follows s b ds n → (cs ≡ ds) × (m ≡ n)
follows_one {s} {m} {n} {b} {cs} {ds} f g =
    let p = serves_calls f.served f.all_served in
    let q = serves_calls g.served g.all_served in
    let e : cs ≡ ds = calls_unique (seconds (word b 0)) s cs ds p q in
    let same : f.between ≡ g.between = serves_after f.served ∙ ap (λ (k : List ShiftLine). after k s) e ∙ sym (serves_after g.served) in
    (e, applied-one (is-event f.taken) (subst (λ (k : State). AppliedTo k b m) same f.applied) g.applied)

pub taken_not_refused : {s : State} {b : List ℕ} {why : EventReason} → EventAnswered s b (Ok tt) → EventAnswered s b (Err why) → ⊥
taken_not_refused {s} {b} p q = not-accepted (sym (answered_verdict s b q) ∙ answered_verdict s b p)

why_one : {s : State} {b : List ℕ} {why whence : EventReason} → EventAnswered s b (Err why) → EventAnswered s b (Err whence)
    → why ≡ whence
why_one {s} {b} {why} {whence} p q =
    let e : Err why ≡ Err whence = sym (answered_verdict s b p) ∙ answered_verdict s b q in
    cc

pub words_one : {s m n : State} {bs : List (List ℕ)} {rs qs : List Answer} → AnswersInWords s bs rs m → AnswersInWords s bs qs n → (rs ≡ qs) × (m ≡ n)
words_one no_more no_more = (refl, refl)
words_one {n = n} (taken {bs = bs} f r) (taken {rs = qs} g k) =
    let e = follows_one f g in
    let more = words_one r (subst (λ (j : State). AnswersInWords j bs qs n) (sym e.1) k) in
    ((λ i. accepted (e.0 i) ∷ more.0 i), more.1)
words_one (taken f r) (turned_away q k) = absurd (taken_not_refused f.taken q)
words_one (turned_away p r) (taken g k) = absurd (taken_not_refused g.taken p)
words_one (turned_away p r) (turned_away q k) =
    let e = why_one p q in
    let more = words_one r k in
    ((λ i. refused (e i) ∷ more.0 i), more.1)

-- ---- one list after another
joined_words : {o m n : State} {past rest : List (List ℕ)} {told more : List Answer} → AnswersInWords o past told m → AnswersInWords m rest more n
    → AnswersInWords o (past ++ rest) (told ++ more) n
joined_words no_more k = k
joined_words (taken f r) k = taken f (joined_words r k)
joined_words (turned_away p r) k = turned_away p (joined_words r k)

rest_words : {o m n : State} {past rest : List (List ℕ)} {told more : List Answer} → AnswersInWords o past told m
    → AnswersInWords o (past ++ rest) (told ++ more) n → AnswersInWords m rest more n
rest_words no_more k = k
rest_words {n = n} {rest = rest} {more = more} (taken {bs = bs} {rs = rs} f r) (taken g k) =
    rest_words r (subst (λ (j : State). AnswersInWords j (bs ++ rest) (rs ++ more) n) (sym (follows_one f g).1) k)
rest_words (turned_away p r) (turned_away q k) = rest_words r k

-- ---- a refused event
-- the answers to a list begin with those to its front, and go on from the state that these leave
record Split (m : State) (told : List Answer) (bs : List (List ℕ)) (qs : List Answer) (n : State) : Type 0 where
  more : List Answer
  is : qs ≡ told ++ more
  there : AnswersInWords m bs more n

split_words : {o m n : State} {past bs : List (List ℕ)} {told qs : List Answer} → AnswersInWords o past told m → AnswersInWords o (past ++ bs) qs n
    → Split m told bs qs n
split_words {qs = qs} no_more k = record { more = qs; is = refl; there = k }
split_words {n = n} {bs = bs} (taken {bs = past} f r) (taken {rs = qs} g k) =
    let e = follows_one f g in
    let s = split_words r (subst (λ (j : State). AnswersInWords j (past ++ bs) qs n) (sym e.1) k) in
    record { more = s.more; is = λ i. accepted (sym e.0 i) ∷ s.is i; there = s.there }
split_words (taken f r) (turned_away v k) = absurd (taken_not_refused f.taken v)
split_words (turned_away v r) (taken g k) = absurd (taken_not_refused g.taken v)
split_words (turned_away v r) (turned_away w k) =
    let e = why_one w v in
    let s = split_words r k in
    record { more = s.more; is = λ i. refused (e i) ∷ s.is i; there = s.there }

pub struck_out : {o m n : State} {past rest : List (List ℕ)} {told qs : List Answer} {b : List ℕ} {why : EventReason} → AnswersInWords o past told m
    → EventAnswered m b (Err why) → AnswersInWords o (past ++ b ∷ rest) qs n ↔ Struck o past told why rest qs n
struck_out {o} {m} {n} {past} {rest} {told} {qs} {b} {why} h v = (
  λ k. let s = split_words h k in go s.is s.there,
  λ k. subst (λ (rs : List Answer). AnswersInWords o (past ++ b ∷ rest) rs n) (sym k.answers) (joined_words h (turned_away v (rest_words h k.without))),
)
  where
    go : {more : List Answer} → qs ≡ told ++ more → AnswersInWords m (b ∷ rest) more n → Struck o past told why rest qs n
    go e (taken f r) = absurd (taken_not_refused f.taken v)
    go e (turned_away {rs = more} w r) =
        record { more = more; answers = e ∙ ap (λ (x : EventReason). told ++ refused x ∷ more) (why_one w v); without = joined_words h r }

-- ---- from a proper state: what the computed relation says, and what every state of a session is
words_distinct : {s n : State} {bs : List (List ℕ)} {rs : List Answer} → Distinct (ids s.lines) → AnswersInWords s bs rs n → Distinct (ids n.lines)
words_distinct d no_more = d
words_distinct d (taken f r) = words_distinct (follows_distinct d f) r
words_distinct d (turned_away v r) = words_distinct d r

pub record Told (o : State) (bs : List (List ℕ)) (rs : List Answer) (s : State) : Type 0 where
  pub answers : Answers o bs rs
  pub is : s ≡ reached o bs rs
  pub proper : Proper s

pub proper_held : (s : State) → Proper s → Held s
proper_held s p = record { sane = p.sane; exact = p.sound.exact }

pub told-from : (o : State) → Proper o → {bs : List (List ℕ)} {rs : List Answer} {s : State} → AnswersInWords o bs rs s → Told o bs rs s
told-from o p {bs} {rs} {s} h =
    let w = words_answers p.sound p.distinct h in
    record {
      answers = w.0;
      is = w.1;
      proper =
          record {
            sane = rw w.1 (held_moment (proper_held o p) (moment_reached bs rs start w.0)).sane;
            sound = rw w.1 (sound-reached o bs rs p.sound w.0);
            distinct = words_distinct p.distinct h;
          };
    }

pub opens_proper : (o : State) → Opens o → Proper o
opens_proper o q =
    let e = answered_table q.table q.opened_by in
    record {
      sane = sane-opening o (accepted-table q.table o e).state;
      sound = sound-opening q.table o e;
      distinct = distinct-opening q.table o e;
    }

-- what is computed from a sound state
pub run_in_words : (s : State) → Sound s → Distinct (ids s.lines) → (bs : List (List ℕ)) → AnswersInWords s bs (run s bs) (finally s bs)
run_in_words s v d bs = rw (finally-reached s bs) (answers_words s bs (run s bs) v d (run-right s bs v))

-- ---- each line of the joined list stands in the answer to some byte string
record Within (all : List ShiftLine) (c : ShiftLine) : Type 0 where
  cs : List ShiftLine
  ds : List ShiftLine
  split : all ≡ cs ++ c ∷ ds

within : (cs : List ShiftLine) → Every (Within cs) cs
unfolding Every
within [] = tt
within (c ∷ cs) = (
  record { cs = []; ds = cs; split = refl },
  every_weaker _ _ (λ d w. record { cs = c ∷ w.cs; ds = w.ds; split = ap {B = List ShiftLine} (λ r. c ∷ r) w.split }) cs (within cs),
)

reported_here : (s n : State) (b : List ℕ) (bs : List (List ℕ)) (cs : List ShiftLine) (rs : List Answer) → Follows s b cs n
    → Every (Reported s (b ∷ bs) (accepted cs ∷ rs)) cs
reported_here s n b bs cs rs f = every_weaker _ _ there cs (within cs)
  where
    there : (c : ShiftLine) → Within cs c → Reported s (b ∷ bs) (accepted cs ∷ rs) c
    there c w =
        record {
          past = [];
          told = [];
          state = s;
          b = b;
          cs = w.cs;
          ds = w.ds;
          left_by = n;
          rest = bs;
          more = rs;
          inputs = refl;
          outputs = ap {B = List Answer} (λ ks. accepted ks ∷ rs) w.split;
          so_far = no_more;
          answer = subst (λ (ks : List ShiftLine). Follows s b ks n) w.split f;
        }

-- after one answer more at the front
reported-later : (s m : State) (b : List ℕ) (bs : List (List ℕ)) (a : Answer) (rs : List Answer)
    → ((past : List (List ℕ)) (told : List Answer) (k : State) → AnswersInWords m past told k → AnswersInWords s (b ∷ past) (a ∷ told) k) → (c : ShiftLine)
    → Reported m bs rs c → Reported s (b ∷ bs) (a ∷ rs) c
reported-later s m b bs a rs on c r =
    record {
      past = b ∷ r.past;
      told = a ∷ r.told;
      state = r.state;
      b = r.b;
      cs = r.cs;
      ds = r.ds;
      left_by = r.left_by;
      rest = r.rest;
      more = r.more;
      inputs = ap {B = List (List ℕ)} (λ k. b ∷ k) r.inputs;
      outputs = ap {B = List Answer} (λ k. a ∷ k) r.outputs;
      so_far = on r.past r.told r.state r.so_far;
      answer = r.answer;
    }

pub words_reported : {s n : State} {bs : List (List ℕ)} {rs : List Answer} → AnswersInWords s bs rs n → Every (Reported s bs rs) (joined rs)
unfolding joined
words_reported no_more = unfold Every in tt
words_reported {s} (taken {m = m} {b = b} {bs = bs} {cs = cs} {rs = rs} f r) =
    every_append _ cs (joined rs) (reported_here s m b bs cs rs f)
    (every_weaker _ _ (reported-later s m b bs (accepted cs) rs (λ past told k h. taken f h)) (joined rs) (words_reported r))
words_reported {s} (turned_away {b = b} {bs = bs} {why = why} {rs = rs} v r) =
    every_weaker _ _ (reported-later s s b bs (refused why) rs (λ past told k h. turned_away v h)) (joined rs) (words_reported r)
