-- No shift is missed: every hold that falls due is answered, by a shift of its side at its second or before, or by the last shift that was
-- left. A shift of the other side leaves it standing, since it ends no pressure there. Assumes nothing.
use Rattle.std.specs.Prelude.{Some}
use mathlib.Core.Path.{◌≡◌, refl}
use mathlib.Core.Logic.{◌⊎◌, inl, inr}
use mathlib.Core.List.Memᴰ
use mathlib.Core.List.{List, [], ◌∷◌}
use Prim.Native.Nat.{ℕ, zero, suc, ◌-◌, ◌≤◌, ◌<◌}
use native.Mathlib.Omega.{arith}
use lib.ListN.{length}
use Rattle.method.specs.words.Types.{Side, Up, Down, Seconds, Hold, ShiftLine, Due, State}
use Rattle.method.specs.words.Ranges.{Every}
use Rattle.method.specs.words.Holds.{Stands, due_at, Done, remaining, hold_at}
use Rattle.method.specs.laws.Seen.{Answered, by_shift, all_made}
use Rattle.method.specs.computed.Shift.{shifted, onward}
use Rattle.method.specs.computed.Relation.{Calls}
use Rattle.method.proofs.Bounds.{other}
use Rattle.method.proofs.EveryLine.{onward_keeps}
use Rattle.method.proofs.HoldLife.{Judged, onward_life, held-pressed}
use Rattle.method.proofs.FirstFound.{not-later}
use Rattle.method.proofs.Head.{left-onward}
use Rattle.method.proofs.Serving.{judged-onward, calls_left}
use Rattle.method.proofs.OtherSide.{Fit, fit_shift, fit_quote, presses_on}

this_or_other : (a b : Side) → (a ≡ b) ⊎ (b ≡ other a)
this_or_other Up Up = inl refl
this_or_other Up Down = inr refl
this_or_other Down Up = inr refl
this_or_other Down Down = inl refl

other_remains : (to : Side) (h : Hold) → remaining to (other to) h ≡ h
other_remains Up h = refl
other_remains Down h = refl

-- ---- a hold of the other side stands on after a shift, while shifts are left
held_on : (s : State) (c : ShiftLine) (place : ℕ) (start : Seconds) → Every Fit s.lines → Judged s → 0 < (onward s c).left
    → hold_at (other c.side) s place ≡ Some start → hold_at (other c.side) (onward s c) place ≡ Some start
held_on s c place start f h z e =
    let side = other c.side in
    (onward_life s c side place).goes_on start (rw (left-onward s c) at z)
    (presses_on s c place f (held-pressed s side place h e).1) (rw (other_remains c.side (hold_at side s place)) e)

stands_on : (s : State) (c : ShiftLine) (x : Due) → Every Fit s.lines → Judged s → x.side ≡ other c.side → 0 < (onward s c).left
    → Stands s x → Stands (onward s c) x
stands_on s c x f h e z k =
    record {
      start = k.start;
      held = rw e (held_on s c x.place k.start f h z (rw e at k.held));
      due = unfold shifted in k.due;
    }

-- ---- the shift lines of one event answer every hold that is due
pub calls_answer : (t : Seconds) (s : State) (cs : List ShiftLine) (x : Due) → Every Fit s.lines → Judged s → Calls t s cs → Stands s x
    → x.second.0 ≤ t.0 → x.second.0 < s.end.0 → Answered x s.left cs
unfolding Calls Done shifted
calls_answer t s [] x f h r k p q = let z = r x k q in absurd (omega arith)
calls_answer t s (c ∷ cs) x f h r k p q =
    by_side (this_or_other c.side x.side)
    (λ e z. calls_answer t (onward s c) cs x (onward_keeps Fit fit_shift fit_quote s c f) (judged-onward s c) r.1 (stands_on s c x f h e z k) p q)
  where
    room : suc (length cs) ≤ s.left
    room = calls_left t s (c ∷ cs) h r

    one_less : (onward s c).left ≡ s.left - 1
    one_less = left-onward s c

    few : length cs ≤ (onward s c).left
    few = calls_left t (onward s c) cs (judged-onward s c) r.1

    in_time : c.second.0 ≤ x.second.0
    in_time = not-later (due_at c r.0.place) x (r.0.ahead x k)

    none_after : (ds : List ShiftLine) → length ds ≤ 0 → Every (λ d. d.second.0 ≤ x.second.0) ds
    none_after [] l = unfold Every in tt
    none_after (d ∷ ds) l = absurd (omega (arith, l))

    more : Answered x (onward s c).left cs → Answered x s.left (c ∷ cs)
    more (by_shift d m e l) = by_shift d (Memᴰ.tail m) e l
    more (all_made e l) = all_made (omega (arith, room, one_less)) (unfold Every in (in_time, l))

    by_left : (n : ℕ) → (onward s c).left ≡ n → (0 < (onward s c).left → Answered x (onward s c).left cs) → Answered x s.left (c ∷ cs)
    by_left zero e go = all_made (omega (arith, room, one_less, few)) (unfold Every in (in_time, none_after cs (omega (arith, few))))
    by_left (suc n) e go = more (go (omega arith))

    by_side : (c.side ≡ x.side) ⊎ (x.side ≡ other c.side)
        → (x.side ≡ other c.side → 0 < (onward s c).left → Answered x (onward s c).left cs) → Answered x s.left (c ∷ cs)
    by_side (inl e) go = by_shift c (Memᴰ.head refl) e in_time
    by_side (inr e) go = by_left (onward s c).left refl (go e)
