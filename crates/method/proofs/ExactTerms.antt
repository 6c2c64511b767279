-- The terms of the exponential series in exact fractions: nothing is cut off in them, and each is the one before by y over k. Assumes nothing.
use mathlib.Core.Path.{◌≡◌, sym, ap, ◌∙◌}
use Prim.Native.Nat.{ℕ, zero, suc, ◌+◌, ◌-◌, ◌*◌, ◌/◌, ◌^◌, ◌≤◌, ◌<◌, ◌∣◌}
use native.Mathlib.Nat.{
  add-zero,
  add-suc,
  zero-add,
  suc-add,
  one-mul,
  zero-lt-suc,
  pow-zero,
  pow-succ',
  le_dest,
  sub-add_cancel,
  mul-pos,
  one-le-pow,
  eq_of_mul-eq-mul_right,
  dvd_refl,
  dvd-mul_left_of_dvd,
  div-mul_cancel,
}
use native.Mathlib.Omega.{arith}
use lib.Dec.{lit<}
use Rattle.method.specs.laws.Outer.{factorial, billionth, one, exact_term, ExactTermIs}

-- ---- factorials and powers
factorial-positive : (n : ℕ) → 0 < factorial n
unfolding factorial
factorial-positive zero = lit< tt
factorial-positive (suc n) = mul-pos (zero-lt-suc n) (factorial-positive n)

factorial_divides : (k d : ℕ) → factorial k ∣ factorial (k + d)
unfolding factorial
factorial_divides k zero = rw add-zero (dvd_refl (factorial k))
factorial_divides k (suc d) = rw add-suc (dvd-mul_left_of_dvd (factorial k) (factorial_divides k d) (suc (k + d)))

no_rest : (k n : ℕ) → k ≤ n → factorial n / factorial k * factorial k ≡ factorial n
no_rest k n h =
    let d = le_dest h in
    div-mul_cancel (factorial k) (rw d.1 at (factorial_divides k d.0))

pow_sum : (b m n : ℕ) → b ^ (m + n) ≡ b ^ m * b ^ n
pow_sum b zero n = rw (zero-add, pow-zero b, one-mul)
pow_sum b (suc m) n = rw (suc-add, pow-succ' b (m + n), pow-succ' b m, pow_sum b m n) (omega arith)

-- ---- a term without quotient and difference
product_of : {g z : ℕ} (q f p e x : ℕ) → q * f ≡ g → p * e ≡ z → q * x * p * (f * e) ≡ x * (g * z)
product_of q f p e x u v = rw (← u, ← v) (omega arith)

pub exact_term-is : ExactTermIs
unfolding exact_term
exact_term-is y k h =
    let tens : 10 ^ (108 - 9 * k) * 10 ^ (9 * k) ≡ 10 ^ 108 =
    sym (pow_sum 10 (108 - 9 * k) (9 * k)) ∙ ap (λ (n : ℕ). 10 ^ n) (sub-add_cancel (omega arith)) in
    product_of (factorial 12 / factorial k) (factorial k) (10 ^ (108 - 9 * k)) (10 ^ (9 * k)) (y ^ k) (no_rest k 12 h) tens

-- so that the next is this one by y over (k + 1) x 10^9
tens_next : (k : ℕ) → 10 ^ (9 * suc k) ≡ 1_000_000_000 * 10 ^ (9 * k)
tens_next k = ap (λ (n : ℕ). 10 ^ n) (nine k) ∙ pow_sum 10 9 (9 * k)
  where
    nine : (k : ℕ) → 9 * suc k ≡ 9 + 9 * k
    nine k = omega arith

cancelled : {f e : ℕ} (t t' y d b x z : ℕ) → 0 < f → 0 < e → t * (f * e) ≡ x * z → t' * (d * f * (b * e)) ≡ y * x * z → t' * (d * b) ≡ t * y
cancelled {f} {e} t t' y d b x z p q u v =
    eq_of_mul-eq-mul_right (f * e) (mul-pos p q) (t' * (d * b)) (t * y) (omega (arith, ap (λ (n : ℕ). n * y) u, v))

pub exact-next : (y k : ℕ) → k < 12 → exact_term y (suc k) * (suc k * 1_000_000_000) ≡ exact_term y k * y
unfolding factorial
exact-next y k h =
    cancelled (exact_term y k) (exact_term y (suc k)) y (suc k) 1_000_000_000 (y ^ k) (factorial 12 * 10 ^ 108)
    (factorial-positive k) (one-le-pow (9 * k) 10 (lit< tt))
    (exact_term-is y k (omega arith))
    (rw (tens_next k, pow-succ' y k) at (exact_term-is y (suc k) h))

-- and the first is one
pub exact-first : (y : ℕ) → exact_term y 0 ≡ one
unfolding exact_term billionth factorial
exact-first y = rw (pow-zero y)
