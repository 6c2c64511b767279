-- Laws of the growth factors and of the rate. Assumes nothing.
use mathlib.Core.Path.{◌≡◌}
use mathlib.Core.List.{List, [], ◌∷◌}
use mathlib.Core.Logic.{⊎_elim}
use Prim.Native.Nat.{ℕ, zero, suc, ◌-◌, ◌*◌, ◌/◌, ◌≤◌, ◌<◌, zero-le}
use native.Mathlib.Nat.{le_refl, add-le-add, mul-le-mul, le_trans, le-div_iff_mul-le, div-le_of_le-mul}
use native.Mathlib.Omega.{arith}
use lib.Dec.{lit≤, leb}
use lib.IntN.{ℤ, pos, nat_abs, ◌+ℤ◌, ◌-ℤ◌, ◌*ℤ◌}
use lib.Signed.{◌≤ℤ◌, ◌<ℤ◌}
use borrow.Author.Tests.{leb-true, leb-false}
use Rattle.numbers.specs.Ranges.{Between, Span}
use Rattle.numbers.specs.Rounding.{floor}
use Rattle.numbers.proofs.Halves.{zarith, add_is, sub_is, mul_is, apart, abs_is}
use Rattle.numbers.proofs.Linear.{le_or_lt, mul_mono, mul_grows, mul_sinks}
use Rattle.numbers.proofs.Rounding.{div_mono, floor_mono, floor-exact}
use Rattle.method.specs.words.Types.{Key}
use Rattle.method.specs.words.Ranges.{largest_rate, KeysIn}
use Rattle.method.specs.words.Growth.{between_keys, rate_from, rate_by_keys, rate_at, most_exponent, term, series, outer_part, up_factor, down_factor, factors_of}
use Rattle.method.specs.computed.Rooms.{largest_factor, least_factor}
use Rattle.method.proofs.Demands.{by_cond}

-- ---- the series rises with the exponent, so that its values at 0 and at the cap bound it
term_mono : {x y : ℕ} (k : ℕ) → x ≤ y → term x k ≤ term y k
unfolding term
term_mono zero h = le_refl 1_000_000_000
term_mono (suc k) h = div_mono (suc k * 1_000_000_000) (mul-le-mul (term_mono k h) h)

series_mono : {x y : ℕ} (k : ℕ) → x ≤ y → series x k ≤ series y k
unfolding series
series_mono zero h = term_mono 0 h
series_mono (suc k) h = add-le-add (series_mono k h) (term_mono (suc k) h)

at_zero : 1_000_000_000 ≤ series 0 12
unfolding series term
at_zero = lit≤ tt

at_cap : series most_exponent 12 ≤ 1_649_000_000
unfolding series term
at_cap = lit≤ tt

series-between : (y : ℕ) → y ≤ most_exponent → Between 1_000_000_000 1_649_000_000 (series y 12)
series-between y h = record { least = le_trans at_zero (series_mono 12 zero-le); most = le_trans (series_mono 12 h) at_cap }

-- and leave room for the outer part
pub up-between : (y : ℕ) → y ≤ most_exponent → Between 1_000_000_000 largest_factor (up_factor y)
unfolding up_factor outer_part
up-between zero h = let r = series-between 0 h in record { least = omega (arith, r); most = omega (arith, r) }
up-between (suc y) h = let r = series-between (suc y) h in record { least = omega (arith, r); most = omega (arith, r) }

-- ---- 10^18 by a factor between them
pub down-between : (y : ℕ) → y ≤ most_exponent → Between least_factor 1_000_000_000 (down_factor y)
unfolding down_factor
down-between y h = go (up_factor y) (up-between y h)
  where
    go : (u : ℕ) → Between 1_000_000_000 largest_factor u → Between least_factor 1_000_000_000 (1_000_000_000_000_000_000 / u)
    go u r =
        let positive : 0 < u = omega arith in
        record {
          least = (le-div_iff_mul-le positive).1 (le_trans (mul-le-mul (le_refl least_factor) r.most) (lit≤ tt));
          most = div-le_of_le-mul u (le_trans (lit≤ tt) (mul-le-mul r.least (le_refl 1_000_000_000)));
        }

pub factors_in : (y : ℕ) → y ≤ most_exponent → (Between 1_000_000_000 largest_factor (factors_of y).up.0) × (Between least_factor 1_000_000_000 (factors_of y).down.0)
unfolding factors_of
factors_in y h = (up-between y h, down-between y h)

-- ---- the rate: between two keys it lies between their rates
pub pos-minus : (m n : ℕ) → n ≤ m → pos m -ℤ pos n ≡ pos (m - n)
pos-minus m n h = omega (zarith, sub_is (pos m) (pos n))

module _ (a : ℤ) (n d : ℕ) (h : n ≤ d) (g : 0 < d) where
  part_of_rise : pos 0 ≤ℤ a → Span (pos 0) a (floor (a *ℤ pos n) d)
  part_of_rise p =
      record {
        least = rw (floor-exact (pos 0) d g) at (floor_mono d (first a p));
        most = rw (floor-exact a d g) at (floor_mono d (mul_grows a p h));
      }
    where
      first : (a : ℤ) → pos 0 ≤ℤ a → (pos 0 *ℤ pos d) ≤ℤ (a *ℤ pos n)
      first a p = omega (zarith, mul_is (pos 0) d, mul_is (pos 0) n, mul_mono n p)

  part_of_fall : a ≤ℤ pos 0 → Span a (pos 0) (floor (a *ℤ pos n) d)
  part_of_fall p =
      record {
        least = rw (floor-exact a d g) at (floor_mono d (mul_sinks a p h));
        most = rw (floor-exact (pos 0) d g) at (floor_mono d (last a p));
      }
    where
      last : (a : ℤ) → a ≤ℤ pos 0 → (a *ℤ pos n) ≤ℤ (pos 0 *ℤ pos d)
      last a p = omega (zarith, mul_is (pos 0) d, mul_is (pos 0) n, mul_mono n p)

-- rates of millionths, and so is what lies between them
abbrev pub RateIn : ℤ → Type 0
RateIn z = Span (pos 0) (pos largest_rate) z

between_in : (l r n d : ℕ) → l ≤ largest_rate → r ≤ largest_rate → n ≤ d → 0 < d → RateIn (pos l +ℤ floor ((pos r -ℤ pos l) *ℤ pos n) d)
between_in l r n d hl hr h g = ⊎_elim rise fall (le_or_lt (pos 0) (pos r -ℤ pos l))
  where
    f : ℤ
    f = floor ((pos r -ℤ pos l) *ℤ pos n) d

    rise : pos 0 ≤ℤ (pos r -ℤ pos l) → RateIn (pos l +ℤ f)
    rise p =
        let q = part_of_rise (pos r -ℤ pos l) n d h g p in
        record { least = omega (zarith, q.least, add_is (pos l) f); most = omega (zarith, q.most, add_is (pos l) f, sub_is (pos r) (pos l)) }

    fall : (pos r -ℤ pos l) <ℤ pos 0 → RateIn (pos l +ℤ f)
    fall p =
        let q = part_of_fall (pos r -ℤ pos l) n d h g (omega zarith) in
        record { least = omega (zarith, q.least, add_is (pos l) f, sub_is (pos r) (pos l)); most = omega (zarith, q.most, add_is (pos l) f) }

pub between_keys_in : (l r : Key) (days : ℕ) → l.rate.0 ≤ largest_rate → r.rate.0 ≤ largest_rate → l.days < days → days ≤ r.days → RateIn (between_keys l r days)
unfolding between_keys
between_keys_in l r days hl hr h g =
    rw (pos-minus days l.days (omega arith))
    (between_in l.rate.0 r.rate.0 (days - l.days) (r.days - l.days) hl hr (omega arith) (omega arith))

key_rate_in : (n : ℕ) → n ≤ largest_rate → RateIn (pos n)
key_rate_in n h = record { least = omega zarith; most = omega zarith }

rate_from_in : (l : Key) (keys : List Key) (days : ℕ) → l.rate.0 ≤ largest_rate → l.days < days → KeysIn l.days keys → RateIn (rate_from l keys days)
unfolding rate_from KeysIn
rate_from_in l [] days hl h k = key_rate_in l.rate.0 hl
rate_from_in l (r ∷ keys) days hl h k =
    by_cond RateIn (leb days r.days) (λ e. between_keys_in l r days hl k.0.rate h (leb-true days r.days e))
    (λ e. rate_from_in r keys days k.0.rate (leb-false days r.days e) k.1)

rate_by_keys_in : (keys : List Key) (days : ℕ) → KeysIn 0 keys → RateIn (rate_by_keys keys days)
unfolding rate_by_keys KeysIn
rate_by_keys_in [] days k = key_rate_in 0 (omega arith)
rate_by_keys_in (l ∷ keys) days k =
    by_cond RateIn (leb days l.days) (λ e. key_rate_in l.rate.0 k.0.rate)
    (λ e. rate_from_in l keys days k.0.rate (leb-false days l.days e) k.1)

-- A rate is never negative, so that its number of millionths is the rate itself.
pub rate-is : (keys : List Key) (days : ℕ) → KeysIn 0 keys → pos (rate_at keys days) ≡ rate_by_keys keys days
unfolding rate_at
rate-is keys days k = go (rate_by_keys keys days) (rate_by_keys_in keys days k)
  where
    go : (z : ℤ) → RateIn z → pos (nat_abs z) ≡ z
    go z r = omega (zarith, r.least, abs_is z, apart z)

pub rate-most : (keys : List Key) (days : ℕ) → KeysIn 0 keys → rate_at keys days ≤ largest_rate
rate-most keys days k = go (rate_at keys days) (rate-is keys days k) (rate_by_keys_in keys days k)
  where
    go : (n : ℕ) {z : ℤ} → pos n ≡ z → RateIn z → n ≤ largest_rate
    go n e r = omega (zarith, e, r.most)
