-- The rate between two keys, as the code computes it: each step fits, and the result is a number of millionths. Assumes nothing.
use mathlib.Core.Path.{◌≡◌, sym, ap, ◌∙◌}
use Prim.Native.Nat.{ℕ, ◌+◌, ◌-◌}
use native.Mathlib.Omega.{arith}
use lib.Dec.{T, lit<}
use lib.IntN.{ℤ, pos, nat_abs, ◌+ℤ◌, ◌-ℤ◌, ◌*ℤ◌}
use lib.Signed.{non_neg}
use mir.Syntax.{w32, w64}
use mir.Val.{Fits, SFits, to_z, of_z}
use mir.Facts.{to_z-of_z}
use Rattle.numbers.specs.Rounding.{floor}
use Rattle.numbers.specs.Ranges.{Within}
use Rattle.numbers.proofs.Halves.{zarith, apart}
use Rattle.numbers.proofs.Ranges.{fits, within_sub, within_mul, within_pos}
use Rattle.numbers.proofs.Machine.{to_u64, of_u64}
use Rattle.method.specs.words.Ranges.{largest_rate, most_days}
use Rattle.method.specs.words.Growth.{between_keys}
use Rattle.method.proofs.Growth.{pos-minus, RateIn, between_keys_in}
use Rattle.growth.specs.Names.{Key}
use Rattle.growth.specs.Asks.{Neighbours}

-- what a signed local that was set to z is read as
abbrev held : ℤ → ℤ
held z = to_z w64 (of_z w64 z)

module _ {l r : Key} {days : ℕ} (q : Neighbours l r days) where
  low_fits : SFits w64 (pos l.rate.0)
  low_fits = fits (within_pos q.low_rate) (lit< tt)

  rise_within : Within (largest_rate + largest_rate) (pos r.rate.0 -ℤ pos l.rate.0)
  rise_within = within_sub (within_pos q.high_rate) (within_pos q.low_rate)

  part_within : Within most_days (pos (days - l.days))
  part_within = within_pos (omega (arith, q.days_small))

  whole_within : Within most_days (pos (r.days - l.days))
  whole_within = within_pos (omega (arith, q.last_small))

  -- the rates, the days passed and the days between the keys, each held before it is used
  part-drawn : (a b p w : ℤ) → a ≡ pos r.rate.0 → b ≡ pos l.rate.0 → p ≡ pos (days - l.days) → w ≡ pos (r.days - l.days)
      → floor (held (held (held a -ℤ held b) *ℤ held p)) (nat_abs (held w)) ≡ floor ((pos r.rate.0 -ℤ pos l.rate.0) *ℤ pos (days - l.days)) (r.days - l.days)
  part-drawn a b p w ea eb ep ew =
      rw (
        ea,
        eb,
        ep,
        ew,
        to_z-of_z (fits (within_pos q.high_rate) (lit< tt)),
        to_z-of_z low_fits,
        to_z-of_z (fits rise_within (lit< tt)),
        to_z-of_z (fits part_within (lit< tt)),
        to_z-of_z (fits (within_mul rise_within part_within) (lit< tt)),
        to_z-of_z (fits whole_within (lit< tt)),
      )

  -- the definition's sum, with the machine's difference of days
  sum_is : pos l.rate.0 +ℤ floor ((pos r.rate.0 -ℤ pos l.rate.0) *ℤ pos (days - l.days)) (r.days - l.days) ≡ between_keys l r days
  unfolding between_keys
  sum_is =
      ap (λ (z : ℤ). pos l.rate.0 +ℤ floor ((pos r.rate.0 -ℤ pos l.rate.0) *ℤ z) (r.days - l.days))
      (sym (pos-minus days l.days (omega (arith, q.from))))

-- the lower rate once more is c, and the rounded part of the rise f
module _ {l r : Key} {days : ℕ} (q : Neighbours l r days) {a b p w c f : ℤ} (ea : a ≡ pos r.rate.0) (eb : b ≡ pos l.rate.0)
    (ep : p ≡ pos (days - l.days)) (ew : w ≡ pos (r.days - l.days)) (ec : c ≡ pos l.rate.0)
    (ef : f ≡ floor (held (held (held a -ℤ held b) *ℤ held p)) (nat_abs (held w))) (h : SFits w64 f) where
  sum_back : held c +ℤ held f ≡ between_keys l r days
  sum_back = rw (ec, to_z-of_z (low_fits q), to_z-of_z h, ef, part-drawn q a b p w ea eb ep ew) (sum_is q)

  sum_in : RateIn (held c +ℤ held f)
  sum_in = rw sum_back (between_keys_in l r days q.low_rate q.high_rate q.from q.to)

  pub sum_fits : SFits w64 (held c +ℤ held f)
  sum_fits = fits {k = largest_rate} (rate_within sum_in) (lit< tt)
    where
      rate_within : {z : ℤ} → RateIn z → Within largest_rate z
      rate_within {z} s = record { above = omega (zarith, s.most, apart z); below = omega (zarith, s.least, apart z) }

  pub sum_result : pos (nat_abs (held (held c +ℤ held f))) ≡ between_keys l r days
  sum_result = of_u64 sum_fits sum_in.least ∙ sum_back

  pub sum_cast : T (non_neg (held (held c +ℤ held f))) × Fits w32 (nat_abs (held (held c +ℤ held f)))
  sum_cast = ((to_u64 sum_fits sum_in.least).0, narrow (of_u64 sum_fits sum_in.least) sum_in)
    where
      narrow : {n : ℕ} {z : ℤ} → pos n ≡ z → RateIn z → Fits w32 n
      narrow s r = record { fits = omega (zarith, s, r.most) }
