-- The moments of a session: right answers lead from one to another, and every moment keeps the ranges, and holds as they are to stand.
-- What a shift and an applied event keep is so kept by every list of answers. Assumes nothing.
use mathlib.Core.Path.{◌≡◌, refl, ◌∙◌}
use mathlib.Core.List.{List, [], ◌∷◌, ◌++◌, append-nil, append_assoc}
use Prim.Native.Nat.{ℕ, suc}
use native.Mathlib.Omega.{arith}
use lib.ListN.{length}
use Rattle.method.specs.words.Types.{Seconds, ShiftLine, State}
use Rattle.method.specs.words.Ranges.{Every}
use Rattle.method.specs.words.Holds.{First}
use Rattle.method.specs.words.Sessions.{Answer, accepted, refused, lines_of, joined}
use Rattle.method.specs.computed.Shift.{shifted, onward, after}
use Rattle.method.specs.computed.Event.{read, next}
use Rattle.method.specs.computed.Relation.{Calls, time, Right, Answers, reached}
use Rattle.method.specs.computed.Later.{Later, start, shift, event}
use Rattle.method.specs.computed.Rooms.{OpeningIn, LineIn, Sane}
use Rattle.method.specs.computed.Sound.{Exact}
use Rattle.method.proofs.Every.{every_weaker}
use Rattle.method.proofs.Exact.{exact-shifted, exact-applied, exact-opened}
use Rattle.method.proofs.Events.{read_in, verdict-after}
use Rattle.method.proofs.Serving.{first-left, after-append, calls_rest}
use Rattle.method.proofs.Sane.{sane-opening, sane-shifted, sane-applied}

-- ---- answers lead from a moment to a moment
-- the first of the shift lines that an event calls for
pub moment_after : {o s : State} {cs : List ShiftLine} (t : Seconds) (ds es : List ShiftLine) → Later o cs s → Calls t s (ds ++ es)
    → Later o (cs ++ ds) (after ds s)
unfolding Calls after
moment_after t [] es m h = rw append-nil m
moment_after {s = s} t (d ∷ ds) es m h = rw append_assoc at (moment_after {s = onward s d} t ds es (shift m t d h.0) h.1)

pub moment_next : {o s : State} {cs : List ShiftLine} (b : List ℕ) (a : Answer) → Later o cs s → Right s (read b) a
    → Later o (cs ++ lines_of a) (next s (read b) a)
unfolding Right next
moment_next {s = s} b (accepted ds) m r =
    event (moment_after (time (read b)) ds [] m (rw append-nil r.1)) b (verdict-after ds s (read b) ∙ r.0)
moment_next b (refused why) m r = rw append-nil m

pub moment_reached : {o s : State} {cs : List ShiftLine} (bs : List (List ℕ)) (rs : List Answer) → Later o cs s → Answers s bs rs
    → Later o (cs ++ joined rs) (reached s bs rs)
unfolding Answers reached joined
moment_reached [] [] m r = rw append-nil m
moment_reached [] (a ∷ rs) m r = absurd r
moment_reached (b ∷ bs) [] m r = absurd r
moment_reached {s = s} (b ∷ bs) (a ∷ rs) m r = rw append_assoc at (moment_reached {s = next s (read b) a} bs rs (moment_next b a m r.0) r.1)

-- ---- what is split: a list of shift lines, and a list of answers
pub moment_rest : (s : State) (b : List ℕ) (cs ds : List ShiftLine) → Right s (read b) (accepted (cs ++ ds))
    → Later (after cs s) ds (next s (read b) (accepted (cs ++ ds)))
unfolding Right next
moment_rest s b cs ds r =
    rw (after-append cs ds s)
    (event (moment_after (time (read b)) ds [] start (rw append-nil (calls_rest (time (read b)) s cs ds r.1))) b
    (verdict-after ds (after cs s) (read b) ∙ verdict-after cs s (read b) ∙ r.0))

pub record Split (s : State) (bs ds : List (List ℕ)) (rs qs : List Answer) : Type 0 where
  pub first : Answers s bs rs
  pub rest : Answers (reached s bs rs) ds qs
  pub last : reached s (bs ++ ds) (rs ++ qs) ≡ reached (reached s bs rs) ds qs

pub answers-split : (s : State) (bs ds : List (List ℕ)) (rs qs : List Answer) → length bs ≡ length rs → Answers s (bs ++ ds) (rs ++ qs) → Split s bs ds rs qs
unfolding Answers reached
answers-split s [] ds [] qs e h = record { first = tt; rest = h; last = refl }
answers-split s [] ds (a ∷ rs) qs e h = absurd (no e)
  where
    no : 0 ≡ suc (length rs) → ⊥
    no e = omega arith
answers-split s (b ∷ bs) ds [] qs e h = absurd (no e)
  where
    no : suc (length bs) ≡ 0 → ⊥
    no e = omega arith
answers-split s (b ∷ bs) ds (a ∷ rs) qs e h =
    let p = answers-split (next s (read b) a) bs ds rs qs (omega arith) h.1 in
    record { first = (h.0, p.first); rest = p.rest; last = p.last }

-- ---- ranges and holds at every moment
pub record Held (s : State) : Type 0 where
  pub sane : Sane s
  pub exact : Every (Exact s.near s.left) s.lines

pub held-opening : (s : State) → OpeningIn s → Held s
held-opening s o =
    record { sane = sane-opening s o; exact = every_weaker LineIn (Exact s.near s.left) (exact-opened s.near s.left) s.lines o.lines }

held_onward : (t : Seconds) (s : State) (c : ShiftLine) → Held s → First t s c → Held (onward s c)
held_onward t s c h f =
    record {
      sane = sane-shifted c.side c.second s (first-left h.exact f) (omega (arith, f.before_end, h.sane.end)) h.sane;
      exact = unfold shifted in exact-shifted c.side c.second s;
    }

pub held_moment : {o s : State} {cs : List ShiftLine} → Held o → Later o cs s → Held s
held_moment h start = h
held_moment h (shift {s = s} m t c f) = held_onward t s c (held_moment h m) f
held_moment h (event {s = s} m b v) =
    let k = held_moment h m in
    record { sane = sane-applied (read b) s v (read_in b) k.sane; exact = exact-applied (read b) s k.exact }

-- ---- so of what the code keeps: a state after the shift lines that it calls for, and after an answer
module _ (s : State) (v : Sane s) (ps : Every (Exact s.near s.left) s.lines) where
  pub sane-after : (t : Seconds) (cs : List ShiftLine) → Calls t s cs → Sane (after cs s)
  sane-after t cs h = (held_moment (record { sane = v; exact = ps }) (moment_after t cs [] start (rw append-nil h))).sane

  pub sane-next : (b : List ℕ) (a : Answer) → Right s (read b) a → Sane (next s (read b) a)
  sane-next b a r = (held_moment (record { sane = v; exact = ps }) (moment_next b a start r)).sane
