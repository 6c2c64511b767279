-- The stages of a run form a chain: at each, a hold began there or stood at the one before. So the hold behind a shift line has stood, and
-- its line has pressed, at every stage since its start. Assumes nothing.
use Rattle.std.specs.Prelude.{Some}
use mathlib.Core.Path.{◌≡◌, refl, sym, ap, ◌∙◌}
use mathlib.Core.Logic.{◌⊎◌, inl, inr, ⊎_elim}
use mathlib.Core.List.{List, [], ◌∷◌, ◌++◌}
use Prim.Native.Nat.{ℕ, ◌≤◌, ◌<◌}
use native.Mathlib.Omega.{arith}
use Rattle.method.specs.words.Types.{Side, Seconds, ShiftLine, State}
use Rattle.method.specs.words.Ranges.{Every}
use Rattle.method.specs.words.Holds.{hold_at}
use Rattle.method.specs.words.Sessions.{Answer, accepted, refused}
use Rattle.method.specs.laws.Seen.{Precedes, before, up_down, Rising, Timely}
use Rattle.method.specs.laws.Stages.{Stage, Pressing, Begun, Throughout}
use Rattle.method.specs.computed.Types.{ReadEvent}
use Rattle.method.specs.computed.Shift.{onward, after}
use Rattle.method.specs.computed.Event.{read, next}
use Rattle.method.specs.computed.Relation.{time, Right, Answers, reached}
use Rattle.method.specs.computed.Sound.{Sound}
use Rattle.method.proofs.Every.{every_weaker, every_front}
use Rattle.method.proofs.HoldLife.{Judged, applied_life, life_since, held-pressed}
use Rattle.method.proofs.Serving.{judged-onward, onward-held, calls_rising, after-judged}
use Rattle.method.proofs.Answers.{next-sound, next-clock, next-timely, right-from_clock, sound-reached}

-- ---- the stages, computed
unfoldable pub shift_stages : State → List ShiftLine → List Stage
shift_stages s [] = []
shift_stages s (c ∷ cs) = record { second = c.second; state = onward s c } ∷ shift_stages (onward s c) cs

unfoldable pub event-stages : State → ReadEvent → Answer → List Stage
event-stages s e (accepted cs) = shift_stages s cs ++ record { second = time e; state = next s e (accepted cs) } ∷ []
event-stages s e (refused why) = []

unfoldable pub stages : State → List (List ℕ) → List Answer → List Stage
stages s [] rs = []
stages s (b ∷ bs) [] = []
stages s (b ∷ bs) (a ∷ rs) = event-stages s (read b) a ++ stages (next s (read b) a) bs rs

-- ---- a chain of stages
record Follows (m n : Stage) : Type 0 where
  not-before : m.second.0 ≤ n.second.0
  judged : Judged n.state
  held : (side : Side) (place : ℕ) (start : Seconds) → hold_at side n.state place ≡ Some start
      → (start ≡ n.second) ⊎ (hold_at side m.state place ≡ Some start)

unfoldable Chain : Stage → List Stage → Type 0
Chain m [] = Unit {0}
Chain m (n ∷ ns) = Follows m n × Chain n ns

unfoldable last : Stage → List Stage → Stage
last m [] = m
last m (n ∷ ns) = last n ns

chain_append : (m : Stage) (ns os : List Stage) → Chain m ns → Chain (last m ns) os → Chain m (ns ++ os)
unfolding Chain last
chain_append m [] os h k = k
chain_append m (n ∷ ns) os h k = (h.0, chain_append n ns os h.1 k)

last-append : (m : Stage) (ns os : List Stage) → last m (ns ++ os) ≡ last (last m ns) os
unfolding last
last-append m [] os = refl
last-append m (n ∷ ns) os = last-append n ns os

-- ---- along a chain, a hold that stands at the last stage has stood since its start
module _ (side : Side) (place : ℕ) (start : Seconds) where
  abbrev Held : Stage → Type 0
  Held m = hold_at side m.state place ≡ Some start

  -- at all stages later than the start
  stood : (m : Stage) (ns : List Stage) → Chain m ns → Held (last m ns)
      → (start.0 < m.second.0 → Held m) × Every (λ n. start.0 < n.second.0 → Pressing side place start n) ns
  unfolding Chain last Every
  stood m [] h e = (λ l. e, tt)
  stood m (n ∷ ns) h e = go (stood n ns h.1 e)
    where
      back : start.0 < m.second.0 → (start ≡ n.second) ⊎ Held m → Held m
      back l (inl p) = let q : start.0 ≡ n.second.0 = ap (λ (z : Seconds). z.0) p in absurd (omega (arith, h.0.not-before))
      back l (inr p) = p

      go : (start.0 < n.second.0 → Held n) × Every (λ k. start.0 < k.second.0 → Pressing side place start k) ns
          → (start.0 < m.second.0 → Held m) × Every (λ k. start.0 < k.second.0 → Pressing side place start k) (n ∷ ns)
      go r = (
        λ l. back l (h.0.held side place start (r.0 (omega (arith, h.0.not-before)))),
        (λ l. record { held = r.0 l; pressed = (held-pressed n.state side place h.0.judged (r.0 l)).1 }, r.1),
      )

  -- and from a stage at that very second on, unless it has stood from the first
  record From (ns : List Stage) : Type 0 where
    earlier : List Stage
    began : Stage
    later : List Stage
    split : ns ≡ earlier ++ began ∷ later
    at_start : began.second ≡ start
    from_there : Every (Pressing side place start) (began ∷ later)

  begun : (m : Stage) (ns : List Stage) → Chain m ns → Held (last m ns) → From ns ⊎ Throughout side place start m.state ns
  unfolding Chain last Every
  begun m [] h e = inr (record { stood = e; ever_since = tt })
  begun m (n ∷ ns) h e = go (begun n ns h.1 e)
    where
      here : Every (Pressing side place start) (n ∷ ns) → (start ≡ n.second) ⊎ Held m
          → From (n ∷ ns) ⊎ Throughout side place start m.state (n ∷ ns)
      here k (inl p) = inl (record { earlier = []; began = n; later = ns; split = refl; at_start = sym p; from_there = k })
      here k (inr p) = inr (record { stood = p; ever_since = k })

      go : From ns ⊎ Throughout side place start n.state ns → From (n ∷ ns) ⊎ Throughout side place start m.state (n ∷ ns)
      go (inr k) =
          let pressed = (held-pressed n.state side place h.0.judged k.stood).1 in
          here (record { held = k.stood; pressed = pressed }, k.ever_since) (h.0.held side place start k.stood)
      go (inl b) =
          inl (record {
            earlier = n ∷ b.earlier;
            began = b.began;
            later = b.later;
            split = ap {B = List Stage} (λ k. n ∷ k) b.split;
            at_start = b.at_start;
            from_there = b.from_there;
          })

  chain_unbroken : (m : Stage) (ns : List Stage) → Chain m ns → Held (last m ns) → Begun side place start ns ⊎ Throughout side place start m.state ns
  chain_unbroken m ns h e = ⊎_elim (λ b. inl (with_the_rest b)) inr (begun m ns h e)
    where
      with_the_rest : From ns → Begun side place start ns
      with_the_rest b =
          record {
            earlier = b.earlier;
            began = b.began;
            later = b.later;
            split = b.split;
            at_start = b.at_start;
            from_there = b.from_there;
            ever_since = (stood m ns h e).1;
          }

-- ---- the stages of a run form a chain, from its first state on
abbrev now : State → Stage
now s = record { second = s.clock; state = s }

not_after : {c d : ShiftLine} → Precedes c d → c.second.0 ≤ d.second.0
not_after (before h) = omega arith
not_after (up_down e u d) = omega arith

shift_chain : (u : Seconds) (s : State) (cs : List ShiftLine) → Every (λ c. u.0 ≤ c.second.0) cs → Rising cs
    → Chain (record { second = u; state = s }) (shift_stages s cs)
unfolding Chain shift_stages Every Rising
shift_chain u s [] h k = tt
shift_chain u s (c ∷ cs) h k = (
  record {
    not-before = h.0;
    judged = judged-onward s c;
    held = λ side place start e. ⊎_elim inl (λ r. inr r.0) (onward-held s c side place e);
  },
  shift_chain c.second (onward s c) cs (every_weaker (Precedes c) _ (λ d p. not_after p) cs k.0) k.1,
)

shift-last : (u t : Seconds) (s : State) (cs : List ShiftLine) → u.0 ≤ t.0 → Every (λ c. c.second.0 ≤ t.0) cs
    → let m : Stage = last (record { second = u; state = s }) (shift_stages s cs) in (m.second.0 ≤ t.0) × (m.state ≡ after cs s)
unfolding last shift_stages after Every
shift-last u t s [] l h = (l, refl)
shift-last u t s (c ∷ cs) l h = shift-last c.second t (onward s c) cs h.0 h.1

-- some first shift lines of an event at t
module _ (s : State) (t : Seconds) (cs : List ShiftLine) (timely : Every (Timely s.clock t s.end) cs) where
  served_chain : Rising cs → Chain (now s) (shift_stages s cs)
  served_chain r = shift_chain s.clock s cs (every_weaker _ _ (λ c k. let h = k.after_clock in omega arith) cs timely) r

  served-last : s.clock.0 ≤ t.0
      → let m : Stage = last (now s) (shift_stages s cs) in (m.second.0 ≤ t.0) × (m.state ≡ after cs s)
  served-last l = shift-last s.clock t s cs l (every_weaker _ _ (λ c k. k.by_event) cs timely)

-- all of them, and the event
module _ (s : State) (e : ReadEvent) (cs : List ShiftLine) (v : Sound s) (r : Right s e (accepted cs)) where
  follows : Follows (last (now s) (shift_stages s cs)) (record { second = time e; state = next s e (accepted cs) })
  follows =
      let end = served-last s (time e) cs (next-timely s e cs v r) (right-from_clock s e cs r) in
      record {
        not-before = end.0;
        judged = (next-sound s e (accepted cs) v r).exact;
        held = λ side place start h.
            rw end.1 (life_since _ _ (applied_life e (after cs s) side place (after-judged cs s v.exact)) (unfold next in h));
      }

  accepted_chain : Chain (now s) (event-stages s e (accepted cs))
  accepted_chain =
      let rising = calls_rising (time e) s cs v.waits (unfold Right in r.1) in
      let shifts = served_chain s (time e) cs (next-timely s e cs v r) rising in
      unfold event-stages in chain_append (now s) (shift_stages s cs) _ shifts (unfold Chain in (follows, tt))

  accepted-last : last (now s) (event-stages s e (accepted cs)) ≡ now (next s e (accepted cs))
  accepted-last =
      unfold event-stages last in
      last-append (now s) (shift_stages s cs) _ ∙ (λ i. record { second = sym (next-clock s e cs r) i; state = next s e (accepted cs) })

event_chain : (s : State) (e : ReadEvent) (a : Answer) → Sound s → Right s e a
    → Chain (now s) (event-stages s e a) × (last (now s) (event-stages s e a) ≡ now (next s e a))
event_chain s e (refused why) v r = unfold event-stages Chain last next in (tt, refl)
event_chain s e (accepted cs) v r = (accepted_chain s e cs v r, accepted-last s e cs v r)

run_chain : (s : State) (bs : List (List ℕ)) (rs : List Answer) → Sound s → Answers s bs rs
    → Chain (now s) (stages s bs rs) × (last (now s) (stages s bs rs) ≡ now (reached s bs rs))
unfolding Answers stages reached
run_chain s [] rs v h = unfold Chain last in (tt, refl)
run_chain s (b ∷ bs) [] v h = absurd h
run_chain s (b ∷ bs) (a ∷ rs) v h = go (run_chain (next s (read b) a) bs rs (next-sound s (read b) a v h.0) h.1)
  where
    n : State
    n = next s (read b) a

    first : Chain (now s) (event-stages s (read b) a) × (last (now s) (event-stages s (read b) a) ≡ now n)
    first = event_chain s (read b) a v h.0

    go : Chain (now n) (stages n bs rs) × (last (now n) (stages n bs rs) ≡ now (reached n bs rs))
        → Chain (now s) (event-stages s (read b) a ++ stages n bs rs)
        × (last (now s) (event-stages s (read b) a ++ stages n bs rs) ≡ now (reached n bs rs))
    go r = (
      chain_append (now s) (event-stages s (read b) a) (stages n bs rs) first.0 (rw first.1 r.0),
      last-append (now s) (event-stages s (read b) a) (stages n bs rs) ∙ rw first.1 r.1,
    )

-- ---- the hold behind a shift line
rising_front : (cs ds : List ShiftLine) → Rising (cs ++ ds) → Rising cs
unfolding Rising
rising_front [] ds h = tt
rising_front (c ∷ cs) ds h = (every_front (Precedes c) cs ds h.0, rising_front cs ds h.1)

pub pressed_since : (o : State) (past : List (List ℕ)) (told : List Answer) (e : ReadEvent) (cs ds : List ShiftLine)
    → (side : Side) (place : ℕ) (start : Seconds) → Sound o → Answers o past told
    → Right (reached o past told) e (accepted (cs ++ ds)) → hold_at side (after cs (reached o past told)) place ≡ Some start
    → let ms : List Stage = stages o past told ++ shift_stages (reached o past told) cs in
    Begun side place start ms ⊎ Throughout side place start o ms
pressed_since o past told e cs ds side place start v h r held =
    let s : State = reached o past told in
    let w : Sound s = sound-reached o past told v h in
    let front = run_chain o past told v h in
    let timely = every_front _ cs ds (next-timely s e (cs ++ ds) w r) in
    let rising = rising_front cs ds (calls_rising (time e) s (cs ++ ds) w.waits (unfold Right in r.1)) in
    let end = (served-last s (time e) cs timely (right-from_clock s e (cs ++ ds) r)).1 in
    chain_unbroken side place start (now o) (stages o past told ++ shift_stages s cs)
    (chain_append (now o) (stages o past told) (shift_stages s cs) front.0 (rw front.1 (served_chain s (time e) cs timely rising)))
    (rw (last-append (now o) (stages o past told) (shift_stages s cs), front.1, end) held)
