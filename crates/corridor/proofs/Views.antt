-- `view` and `put`: a state that is written is read back, and a session that is read and written is as it was. Assumes nothing.
use mathlib.Core.Path.{◌≡◌, ap, sym, subst, ◌∙◌}
use mathlib.Core.List.{List, ◌++◌}
use Prim.Native.Nat.{ℕ, ◌-◌, ◌≤◌}
use native.Mathlib.Omega.{arith}
use lib.ListN.{length, take, drop, length-append, length-drop, take-append-drop}
use lib.Seq.{take-append_seam, drop-append_seam, length-take-le}
use Rattle.method.specs.words.Types.{State, session_ids}
use Rattle.method.specs.computed.Head.{with_lines}
use Rattle.method.specs.computed.Rooms.{Sane}
use Rattle.method.specs.computed.Sound.{Sound, Distinct}
use Rattle.corridor.specs.Names.{Line}
use Rattle.corridor.specs.declared.Session.{Session}
use Rattle.corridor.specs.View.{view, with_head, put, Ranged, Valid}

pub view-put : (s : Session) (x : State) → view (put s x) ≡ x
view-put s x = ap (λ (ls : List Line). with_lines x ls x.left x.clock) (take-append_seam x.lines (drop (length x.lines) s.lines))

pub put-put : (s : Session) (x y : State) → length y.lines ≡ length x.lines → put (put s x) y ≡ put s y
put-put s x y e =
    ap (λ (zs : List Line). with_head y (length y.lines) (y.lines ++ zs))
    (ap (λ (n : ℕ). drop n (x.lines ++ drop (length x.lines) s.lines)) e ∙ drop-append_seam x.lines (drop (length x.lines) s.lines)
    ∙ ap (λ (n : ℕ). drop n s.lines) (sym e))

pub ranged : {s : Session} → Valid s → Ranged s
ranged v = record { full = v.full; few = v.few; sane = v.sane }

pub ranged_length : {s : Session} → Ranged s → length (view s).lines ≡ s.count
ranged_length {s} v = length-take-le s.count s.lines (omega (arith, v.few, v.full))

pub view-length : {s : Session} → Valid s → length (view s).lines ≡ s.count
view-length v = ranged_length (ranged v)

pub put_view : {s : Session} → Valid s → put s (view s) ≡ s
put_view {s} v =
    ap (λ (n : ℕ). with_head (view s) n (take s.count s.lines ++ drop n s.lines)) (view-length v)
    ∙ ap (with_head (view s) s.count) (take-append-drop s.count s.lines)

pub ranged_put : (s : Session) (x : State) → length s.lines ≡ 32 → length x.lines ≤ 32 → Sane x → Ranged (put s x)
ranged_put s x full few w =
    record { full = omega (arith, length-append x.lines (drop (length x.lines) s.lines), open_places); few = few; sane = rw (view-put s x) w }
  where
    open_places : length (drop (length x.lines) s.lines) ≡ 32 - length x.lines
    open_places = length-drop (length x.lines) s.lines ∙ ap (λ (n : ℕ). n - length x.lines) full

pub valid-put : (s : Session) (x : State) → length s.lines ≡ 32 → length x.lines ≤ 32 → Sane x → Sound x → Distinct (session_ids x) → Valid (put s x)
valid-put s x full few w o d =
    let r = ranged_put s x full few w in
    record { full = r.full; few = r.few; sane = r.sane; sound = rw (view-put s x) o; distinct = subst (λ (y : State). Distinct (session_ids y)) (sym (view-put s x)) d }
