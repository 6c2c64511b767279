-- A line whose bid is at most its ask presses on at most one side, where the near share is at most one half, as the table's is.
-- Assumes nothing.
use Rattle.std.specs.Prelude.{None, Some}
use mathlib.Core.Path.{◌≡◌}
use mathlib.Core.Bool.{true, not, false≢true}
use Prim.Native.Nat.{ℕ, ◌/◌, ◌≤◌}
use native.Mathlib.Nat.{mul-le-mul_right}
use lib.IntN.{ℤ, pos, negsuc, ◌-ℤ◌, ◌*ℤ◌}
use lib.Signed.{◌≤ℤ◌, ◌<ℤ◌}
use Rattle.numbers.proofs.Halves.{zarith, sub_is, mul_is, lmul_is}
use Rattle.numbers.proofs.Tests.{both, lt-true, le-true}
use Rattle.method.specs.words.Types.{Up, Down, Millionths, Limits, Price, Line}
use Rattle.method.specs.words.Ranges.{whole, under_watch}
use Rattle.method.specs.words.Pressure.{close, presses}
use Rattle.method.specs.computed.Event.{not_crossed}

abbrev pub half : ℕ
half = whole / 2

half_of : (z : ℤ) (n : ℕ) → n ≤ half → pos 0 ≤ℤ z → (pos n *ℤ z) ≤ℤ (pos half *ℤ z)
half_of (pos k) n h p = omega (zarith, mul-le-mul_right k h)
half_of (negsuc k) n h p = absurd p.le

-- two distances that add up to the width and more cannot both be under half of it
too_near : (u l b a : ℤ) (n : ℕ) → n ≤ half → l ≤ℤ u → b ≤ℤ a → ((u -ℤ b) *ℤ pos whole) <ℤ (pos n *ℤ (u -ℤ l))
    → ((a -ℤ l) *ℤ pos whole) <ℤ (pos n *ℤ (u -ℤ l)) → ⊥
too_near u l b a n h w q up down =
    let zone = half_of (u -ℤ l) n h (omega (zarith, sub_is u l)) in
    omega (
      zarith,
      zone,
      lmul_is half (u -ℤ l),
      mul_is (u -ℤ b) whole,
      mul_is (a -ℤ l) whole,
      sub_is u b,
      sub_is a l,
      sub_is u l,
    )

close_once : (near : Millionths) (k : Limits) (bid ask : Price) → near.0 ≤ half → k.lower.0 ≤ℤ k.upper.0 → not_crossed bid ask ≡ true
    → close Up near k bid ≡ true → close Down near k ask ≡ true → ⊥
unfolding close not_crossed
close_once near k None ask h w q up down = false≢true up
close_once near k (Some bid) None h w q up down = false≢true down
close_once near k (Some bid) (Some ask) h w q up down =
    too_near k.upper.0 k.lower.0 bid.0 ask.0 near.0 h w (le-true bid.0 ask.0 q) (lt-true _ _ up)
    (lt-true _ _ (both (not k.frozen) _ down).1)

pub one_side : (near : Millionths) (l : Line) → near.0 ≤ half → l.limits.lower.0 ≤ℤ l.limits.upper.0
    → not_crossed l.book.bid l.book.ask ≡ true → presses Up near l ≡ true → presses Down near l ≡ true → ⊥
unfolding presses
one_side near l h w q up down =
    let watch = under_watch l.terms.flags in
    close_once near l.limits l.book.bid l.book.ask h w q (both watch _ up).1 (both watch _ down).1
