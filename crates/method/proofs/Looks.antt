-- Two looks are one: an event that tells nothing new, and an accepted event after it, serve together what the later one serves alone.
-- Assumes nothing.
use Rattle.std.specs.Prelude.{Ok}
use mathlib.Core.Path.{◌≡◌, sym, ◌∙◌}
use mathlib.Core.List.{List, ◌++◌}
use Prim.Native.Nat.{◌≤◌}
use native.Mathlib.Omega.{arith}
use Rattle.method.specs.words.Types.{ShiftLine, State}
use Rattle.method.specs.words.Sessions.{accepted}
use Rattle.method.specs.computed.Types.{ReadEvent}
use Rattle.method.specs.computed.Shift.{after}
use Rattle.method.specs.computed.Event.{verdict, next}
use Rattle.method.specs.computed.Relation.{Calls, time, Right}
use Rattle.method.specs.computed.Sound.{Sound}
use Rattle.method.proofs.Events.{on_time, verdict-after}
use Rattle.method.proofs.Serving.{calls_append, after-append, after-judged}
use Rattle.method.proofs.Clock.{at-clock, calls_clock, after_clock, applied_anew, verdict-clock}
use Rattle.method.proofs.Repeats.{Still, still_after, still_applied}

module _ (s : State) (v : Sound s) (e f : ReadEvent) (cs : List ShiftLine) (h : Still s e) (a : verdict s e ≡ Ok tt) where
  -- m is the state after the event e, which sets the clock and changes nothing else of what serving left
  abbrev m : State
  m = next s e (accepted cs)

  abbrev only-served : State
  only-served = at-clock (time e) (after cs s)

  only-clock : m ≡ only-served
  unfolding next
  only-clock = still_applied e (after cs s) s a (after-judged cs s v.exact) (still_after e cs s h)

  -- f is accepted after e exactly where it is accepted before e and does not lie before e
  pub taken-later : (time e).0 ≤ (time f).0 → verdict s f ≡ Ok tt → verdict m f ≡ Ok tt
  taken-later l k = rw only-clock (verdict-clock (time e) (after cs s) f l (verdict-after cs s f ∙ k))

  pub taken-sooner : verdict m f ≡ Ok tt → ((time e).0 ≤ (time f).0) × (verdict s f ≡ Ok tt)
  taken-sooner k =
      let k' : verdict only-served f ≡ Ok tt = rw only-clock at k in
      let l : (time e).0 ≤ (time f).0 = (on_time _ f k').least in
      let c : s.clock.0 ≤ (time e).0 = (on_time s e a).least in
      let back = verdict-clock s.clock only-served f (omega arith) k' in
      (l, sym (verdict-after cs s f) ∙ rw (after_clock s.clock cs s) back)

  pub two_looks : (ds : List ShiftLine) → Calls (time e) s cs → Right m f (accepted ds)
      → Right s f (accepted (cs ++ ds)) × (next s f (accepted (cs ++ ds)) ≡ next m f (accepted ds))
  unfolding Right next
  two_looks ds c r =
      let k = taken-sooner r.0 in
      let d : Calls (time f) only-served ds = rw only-clock at r.1 in (
        (k.1, calls_append (time e) (time f) cs ds s k.0 c (calls_clock (after cs s).clock (time f) only-served ds d)),
        rw (only-clock, after-append cs ds s, after_clock (time e) ds (after cs s))
            (sym (applied_anew (time e) f (after ds (after cs s)) s k.1)),
      )
