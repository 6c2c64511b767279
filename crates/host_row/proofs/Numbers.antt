-- A signed number as a number: what is written reads back. Assumes nothing.
use mathlib.Core.Path.{◌≡◌, ap, ◌∙◌}
use Prim.Native.Nat.{ℕ, ◌+◌, ◌*◌, ◌/◌, ◌%◌, ◌<◌, ◌^◌}
use native.Mathlib.Omega.{arith}
use borrow.Author.Tests.{eq-eqb, ne_eqb}
use lib.IntN.{ℤ, pos, negsuc, nat_abs, ◌-ℤ◌}
use lib.Signed.{◌≤ℤ◌, ◌<ℤ◌}
use mir.Syntax.{w64}
use mir.Val.{SFits, to_z, of_z}
use mir.Facts.{to_z-of_z}
use Rattle.numbers.proofs.Halves.{zarith, sub_is}
use Rattle.numbers.proofs.Machine.{cast_back, less_fits}
use Rattle.host_row.specs.Packed.{signed_in}

-- ---- a signed number that is read
minus : (n : ℕ) → negsuc 0 -ℤ pos n ≡ negsuc n
minus n = omega (zarith, sub_is (negsuc 0) (pos n))

pub even_read : (n : ℕ) → n < 2 ^ 64 → n % 2 ≡ 0 → to_z w64 (n / 2) ≡ signed_in n
unfolding signed_in
even_read n h e = rw (eq-eqb (n % 2) 0 e) (cast_back {n = n / 2} (omega arith))

half_fits : (n : ℕ) → n < 2 ^ 64 → SFits w64 (to_z w64 (n / 2))
half_fits n h = rw (cast_back {n = n / 2} (omega arith)) (record { sfits = omega arith })

odd_fits : (n : ℕ) → n < 2 ^ 64 → SFits w64 (negsuc 0 -ℤ to_z w64 (n / 2))
odd_fits n h = less_fits (half_fits n h)

pub odd_read : (n : ℕ) → n < 2 ^ 64 → (n % 2 ≡ 0 → ⊥) → to_z w64 (of_z w64 (negsuc 0 -ℤ to_z w64 (n / 2))) ≡ signed_in n
unfolding signed_in
odd_read n h e = to_z-of_z (odd_fits n h) ∙ rw (ne_eqb (n % 2) 0 e, cast_back {n = n / 2} (omega arith)) (minus (n / 2))

-- ---- a signed number that is written
twice : (n : ℕ) → signed_in (2 * n) ≡ pos n
unfolding signed_in
twice n = rw (eq-eqb (2 * n % 2) 0 (omega arith)) (ap pos (omega arith))

twice_more : (n : ℕ) → signed_in (2 * n + 1) ≡ negsuc n
unfolding signed_in
twice_more n = rw (ne_eqb ((2 * n + 1) % 2) 0 (λ e. odd n e)) (ap negsuc (omega arith))
  where
    odd : (k : ℕ) → (2 * k + 1) % 2 ≡ 0 → ⊥
    odd k e = omega arith

turned : (n : ℕ) → negsuc 0 -ℤ negsuc n ≡ pos n
turned n = omega (zarith, sub_is (negsuc 0) (negsuc n))

-- a negative one, as the machine turns it
below-read : (z : ℤ) → z <ℤ pos 0 → signed_in (2 * nat_abs (negsuc 0 -ℤ z) + 1) ≡ z
below-read (pos n) h = absurd (never h)
  where
    never : pos n <ℤ pos 0 → ⊥
    never h = omega zarith
below-read (negsuc n) h = rw (turned n) (twice_more n)

module _ (z : ℤ) (f : SFits w64 z) (h : z <ℤ pos 0) where
  abbrev turned_bits : ℤ
  turned_bits = to_z w64 (of_z w64 (negsuc 0 -ℤ to_z w64 (of_z w64 z)))

  turned_is : turned_bits ≡ negsuc 0 -ℤ z
  turned_is = ap (λ (x : ℤ). to_z w64 (of_z w64 (negsuc 0 -ℤ x))) (to_z-of_z f) ∙ to_z-of_z (less_fits f)

  pub below_back : signed_in (2 * nat_abs turned_bits + 1) ≡ z
  below_back = rw turned_is (below-read z h)

-- one that is not
above-read : (z : ℤ) → pos 0 ≤ℤ z → signed_in (2 * nat_abs z) ≡ z
above-read (pos n) h = twice n
above-read (negsuc n) h = absurd (never h)
  where
    never : pos 0 ≤ℤ negsuc n → ⊥
    never h = omega zarith

module _ (z : ℤ) (f : SFits w64 z) (h : pos 0 ≤ℤ z) where
  pub above_back : signed_in (2 * nat_abs (to_z w64 (of_z w64 z))) ≡ z
  above_back = rw (to_z-of_z f) (above-read z h)
