-- Serving: what holds at the head of the loop, and a turn of it; and the session that is served. Assumes nothing.
use Rattle.std.specs.Prelude.{None, Some}
use mathlib.Core.Path.{◌≡◌, refl, ap, sym, ◌∙◌, subst}
use mathlib.Core.List.{List, [], ◌∷◌, ◌++◌, append_assoc, append-nil}
use Prim.Native.Nat.{◌+◌, ◌<◌, ◌≤◌}
use native.Mathlib.Omega.{arith}
use lib.ListN.{length, get_or, length-append}
use lib.Seq.{get_or-take}
use Rattle.method.specs.words.Types.{State, blank}
use Rattle.method.specs.words.Ranges.{most_shifts}
use Rattle.method.specs.computed.Head.{most_left}
use Rattle.method.specs.computed.Shift.{shifted, onward, after}
use Rattle.method.specs.computed.Search.{next_due, called, served_by}
use Rattle.method.proofs.HoldLife.{Judged}
use Rattle.method.proofs.Head.{left_within, most-shifted}
use Rattle.method.proofs.Serving.{judged-onward, served_calls, served-none, served-first}
use Rattle.method.proofs.Later.{sane-after}
use Rattle.corridor.specs.Names.{Seconds, ShiftLine, Due}
use Rattle.corridor.specs.declared.Session.{Session}
use Rattle.corridor.specs.View.{view, put, Ranged, Valid}
use Rattle.corridor.specs.Reply.{served_as}
use Rattle.corridor.proofs.Views.{view-put, put-put, put_view, view-length, ranged, ranged_length, ranged_put}
use Rattle.corridor.proofs.Shifting.{shifted-length, after-length, after_last, ranged_shifted}
use Rattle.corridor.proofs.Due.{Next, next-is}

-- ---- at the head of the loop: `cs` are the shift lines made so far, and with those that are left to make they are the method's
pub record Going (t : Seconds) (s₀ : Session) (s : Session) (cs : List ShiftLine) : Type 0 where
  pub ranged : Ranged s
  pub written : s ≡ put s₀ (view s)
  pub now : view s ≡ after cs (view s₀)
  pub judged : Judged (view s)
  pub spent : length cs + most_left (view s) ≤ most_shifts
  pub rest : served_by t (view s₀) ≡ cs ++ served_by t (view s)

pub going_start : (t : Seconds) (s : Session) → Valid s → Going t s s []
unfolding after
going_start t s v =
    record {
      ranged = ranged v;
      written = sym (put_view v);
      now = refl;
      judged = v.sound.exact;
      spent = omega (arith, v.sane.left);
      rest = refl;
    }

module _ {t : Seconds} {s₀ s : Session} {cs : List ShiftLine} (at : Going t s₀ s cs) where
  -- nothing is due any more
  going_all : next_due t (view s) ≡ None → served_by t (view s₀) ≡ cs
  going_all e = at.rest ∙ ap (λ (ds : List ShiftLine). cs ++ ds) (served-none t (view s) at.judged e) ∙ append-nil cs

  pub going_end : next_due t (view s) ≡ None → (cs ≡ served_by t (view s₀)) × (s ≡ served_as s₀ (served_by t (view s₀)))
  going_end e = (sym (going_all e), at.written ∙ ap (put s₀) (at.now ∙ ap (λ (ds : List ShiftLine). after ds (view s₀)) (sym (going_all e))))

  -- the shift line that the code writes
  pub line-is : (x : Due) → Next t (view s) x → record { second = x.second; side = x.side; id = (get_or s.lines x.place blank).terms.id } ≡ called (view s) x
  line-is x o =
      let h : x.place < s.count = omega (arith, ranged_length at.ranged, o.place) in
      rw (get_or-take s.count s.lines x.place blank h)

  -- there is room for its shift line
  pub going_room : {x : Due} → Next t (view s) x → length cs < 16
  going_room o = omega (arith, at.spent, o.left, left_within (view s))

  -- one hold served
  pub going_turn : (x : Due) (s' : Session) (c : ShiftLine) → next_due t (view s) ≡ Some x → c ≡ called (view s) x → s' ≡ put s (shifted x.side x.second (view s))
      → Going t s₀ s' (cs ++ (c ∷ []))
  unfolding shifted
  going_turn x s' c e ec m =
      let v = view s in
      let b = called v x in
      let w = onward v b in
      let o = next-is t v x e in
      let size = shifted-length x.side x.second v in
      let seen : view (put s w) ≡ w = view-put s w in
      let fewer = most-shifted x.side x.second v o.left in
      let more : length (cs ++ (b ∷ [])) ≡ length cs + 1 = length-append cs (b ∷ []) in
      rw (ec, m)
      (record {
        ranged = ranged_shifted x.side x.second at.ranged o.left (omega (arith, o.before_end, at.ranged.sane.end));
        written = ap (λ (z : Session). put z w) at.written ∙ put-put s₀ v w size ∙ ap (put s₀) (sym seen);
        now = seen ∙ ap (λ (z : State). onward z b) at.now ∙ sym (after_last cs b (view s₀));
        judged = subst Judged (sym seen) (judged-onward v b);
        spent = subst (λ (z : State). length (cs ++ (b ∷ [])) + most_left z ≤ most_shifts) (sym seen) (omega (arith, at.spent, fewer, more));
        rest =
            at.rest ∙ ap (λ (ds : List ShiftLine). cs ++ ds) (served-first t v x at.judged e) ∙ sym (append_assoc cs (b ∷ []) (served_by t w))
            ∙ ap (λ (z : State). (cs ++ (b ∷ [])) ++ served_by t z) (sym seen);
      })

-- ---- the session that is served
pub ranged_served : (s : Session) (t : Seconds) → Valid s → Ranged (put s (after (served_by t (view s)) (view s)))
ranged_served s t v =
    let cs = served_by t (view s) in
    ranged_put s (after cs (view s)) v.full (omega (arith, after-length cs (view s), view-length v, v.few))
    (sane-after (view s) v.sane v.sound.exact t cs (served_calls t (view s) v.sound.exact))
