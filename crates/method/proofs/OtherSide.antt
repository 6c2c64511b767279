-- A shift of one side ends no pressure on the other: it takes its own limit outward or leaves it, and so the zone near the other one does
-- not shrink. This asks of a line that its half-move is not negative and that its lower limit keeps the floor. Assumes nothing.
use Rattle.std.specs.Prelude.{None, Some}
use mathlib.Core.Path.{◌≡◌, refl}
use mathlib.Core.Bool.{Bool, true, false, not, ◌&&◌}
use mathlib.Core.List.{List, [], ◌∷◌, map}
use Prim.Native.Nat.{ℕ, zero, suc, ◌-◌}
use native.Mathlib.Nat.{mul-le-mul_right}
use lib.IntN.{ℤ, pos, ◌+ℤ◌, ◌-ℤ◌, ◌*ℤ◌}
use lib.ListN.{get_or}
use lib.Signed.{lt_z, ≤ℤ_refl, ◌≤ℤ◌, ◌<ℤ◌}
use Rattle.numbers.proofs.Halves.{zarith, le-halves, add_is, sub_is, lmul_is}
use Rattle.numbers.proofs.Tests.{lt-true, true-lt}
use Rattle.method.specs.words.Types.{Side, Up, Down, Seconds, Millionths, Market, Limits, Price, Line, ShiftLine, State, steps, blank}
use Rattle.method.specs.words.Ranges.{whole, permits_negative, under_watch, Every}
use Rattle.method.specs.words.Bounds.{bound}
use Rattle.method.specs.words.Pressure.{close, price, presses}
use Rattle.method.specs.laws.Seen.{presses_at}
use Rattle.method.specs.computed.Types.{Quote}
use Rattle.method.specs.computed.Judge.{judge_line}
use Rattle.method.specs.computed.Shift.{moved, redrawn, moved_line, shift_line, shifted, onward}
use Rattle.method.specs.computed.Event.{quoted_line}
use Rattle.method.specs.computed.Rooms.{Room}
use Rattle.method.proofs.Bounds.{other, upper_rises, lower_falls}
use Rattle.method.proofs.Floor.{Floored, free, met, floor_of, floored-upper}

-- ---- what is asked of a line
pub record Fit (l : Line) : Type 0 where
  pub by : pos 0 ≤ℤ l.terms.halfmove.0
  pub least : permits_negative l.terms.flags ≡ false → pos 1 ≤ℤ l.limits.lower.0

pub fit_room : {left : ℕ} (l : Line) → Room left l → Fit l
fit_room l r = let h = r.terms.halfmove.least in record { by = omega zarith; least = r.limits.floor.least }

-- ---- the floor keeps a limit fit, and does not lift it above a fit one
floored-least : {permitted : Bool} {k n : Limits} → Floored permitted k n → permitted ≡ false → pos 1 ≤ℤ n.lower.0
floored-least (free h) e = h e
floored-least (met g h) e = ≤ℤ_refl (pos 1)

floored-below : {permitted : Bool} {k n : Limits} (z : ℤ) → Floored permitted k n → k.lower.0 ≤ℤ z → (permitted ≡ false → pos 1 ≤ℤ z)
    → n.lower.0 ≤ℤ z
floored-below z (free h) l f = l
floored-below z (met g h) l f = f g

-- ---- a shift takes its limit outward or leaves it
rise : (u a b : ℤ) → a ≤ℤ b → u ≤ℤ (u +ℤ (b -ℤ a))
rise u a b h = omega (zarith, sub_is b a, add_is u (b -ℤ a))

fall : (w a b : ℤ) → a ≤ℤ b → (w -ℤ (b -ℤ a)) ≤ℤ w
fall w a b h = omega (zarith, sub_is b a, sub_is w (b -ℤ a))

module _ (l : Line) where
  abbrev redraw : Side → Limits
  redraw to = redrawn to l.terms l.market (moved to l.terms.halfmove l.market) l.limits

  upper_out : Fit l → l.limits.upper.0 ≤ℤ (redraw Up).upper.0
  unfolding redrawn
  upper_out f = rise l.limits.upper.0 _ _ (upper_rises l.terms.factors l.terms.halfmove l.market f.by)

  -- the limits before the floor acts
  abbrev raw : Limits
  raw =
      let n : Market = moved Down l.terms.halfmove l.market in
      record {
        upper = l.limits.upper;
        lower = steps (l.limits.lower.0 -ℤ (bound Down l.terms.factors l.market -ℤ bound Down l.terms.factors n));
        frozen = l.limits.frozen;
      }

  raw_floored : Floored (permits_negative l.terms.flags) raw (redraw Down)
  unfolding redrawn
  raw_floored = floor_of (permits_negative l.terms.flags) raw

  lower_out : Fit l → (redraw Down).lower.0 ≤ℤ l.limits.lower.0
  lower_out f =
      floored-below l.limits.lower.0 raw_floored
      (fall l.limits.lower.0 _ _ (lower_falls l.terms.factors l.terms.halfmove l.market f.by)) f.least

-- ---- a wider corridor has a wider zone
wider : (near : Millionths) (x w z : ℤ) → w ≤ℤ z → lt_z x (pos near.0 *ℤ w) ≡ true → lt_z x (pos near.0 *ℤ z) ≡ true
wider near x w z h e =
    let l : x <ℤ (pos near.0 *ℤ w) = lt-true x (pos near.0 *ℤ w) e in
    let r : x <ℤ (pos near.0 *ℤ z) = omega (zarith, lmul_is near.0 w, lmul_is near.0 z, mul-le-mul_right near.0 (le-halves h)) in
    true-lt r

from-below : (u l m : ℤ) → m ≤ℤ l → (u -ℤ l) ≤ℤ (u -ℤ m)
from-below u l m h = omega (zarith, sub_is u l, sub_is u m)

from-above : (u v l : ℤ) → u ≤ℤ v → (u -ℤ l) ≤ℤ (v -ℤ l)
from-above u v l h = omega (zarith, sub_is u l, sub_is v l)

and_on : (a : Bool) {b c : Bool} → (b ≡ true → c ≡ true) → (a && b) ≡ true → (a && c) ≡ true
and_on true f e = f e
and_on false f e = e

-- limits k, and wider ones n
up_on : (near : Millionths) (k n : Limits) (p : Price) → n.upper ≡ k.upper → n.lower.0 ≤ℤ k.lower.0 → close Up near k p ≡ true
    → close Up near n p ≡ true
unfolding close
up_on near k n None u h e = e
up_on near k n (Some bid) u h e =
    rw u (wider near ((k.upper.0 -ℤ bid.0) *ℤ pos whole) _ _ (from-below k.upper.0 k.lower.0 n.lower.0 h) e)

down_on : (near : Millionths) (k n : Limits) (p : Price) → n.lower ≡ k.lower → n.frozen ≡ k.frozen → k.upper.0 ≤ℤ n.upper.0
    → close Down near k p ≡ true → close Down near n p ≡ true
unfolding close
down_on near k n None w g h e = e
down_on near k n (Some ask) w g h e =
    let more = from-above k.upper.0 n.upper.0 k.lower.0 h in
    rw (w, g) (and_on (not k.frozen) (wider near ((ask.0 -ℤ k.lower.0) *ℤ pos whole) _ _ more) e)

-- ---- one line
close_on : (near : Millionths) (to : Side) (l : Line) (p : Price) → Fit l → close (other to) near l.limits p ≡ true
    → close (other to) near (redraw l to) p ≡ true
close_on near Up l p f e = down_on near l.limits (redraw l Up) p (unfold redrawn in refl) (unfold redrawn in refl) (upper_out l f) e
close_on near Down l p f e = up_on near l.limits (redraw l Down) p (floored-upper (raw_floored l)) (lower_out l f) e

line_on : (near : Millionths) (left : ℕ) (to : Side) (now : Seconds) (l : Line) → Fit l → presses (other to) near l ≡ true
    → presses (other to) near (shift_line near left to now l) ≡ true
unfolding presses shift_line judge_line moved_line
line_on near left to now l f e = and_on (under_watch l.terms.flags) (close_on near to l (price (other to) l.book) f) e

pub fit_shift : (near : Millionths) (left : ℕ) (to : Side) (now : Seconds) (l : Line) → Fit l → Fit (shift_line near left to now l)
unfolding shift_line judge_line moved_line
fit_shift near left Up now l f = record { by = f.by; least = unfold redrawn in f.least }
fit_shift near left Down now l f = record { by = f.by; least = floored-least (raw_floored l) }

pub fit_quote : (near : Millionths) (left : ℕ) (q : Quote) (l : Line) → Fit l → Fit (quoted_line near left q l)
unfolding quoted_line judge_line
fit_quote near left q l f = record { by = f.by; least = f.least }

-- ---- the line at every place
lines_on : (near : Millionths) (left : ℕ) (to : Side) (now : Seconds) (ls : List Line) (n : ℕ) → Every Fit ls
    → presses (other to) near (get_or ls n blank) ≡ true → presses (other to) near (get_or (map (shift_line near left to now) ls) n blank) ≡ true
unfolding Every
lines_on near left to now [] n h e = e
lines_on near left to now (l ∷ ls) zero h e = line_on near left to now l h.0 e
lines_on near left to now (l ∷ ls) (suc n) h e = lines_on near left to now ls n h.1 e

pub presses_on : (s : State) (c : ShiftLine) (place : ℕ) → Every Fit s.lines → presses_at (other c.side) s place ≡ true
    → presses_at (other c.side) (onward s c) place ≡ true
unfolding shifted
presses_on s c place h e = lines_on s.near (s.left - 1) c.side c.second s.lines place h e
