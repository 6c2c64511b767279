-- The first opening numbers of a contract: the rate at its days left, the exponent, the growth factors (METHOD 4, 5, 6).
use Rattle.std.specs.Prelude.{cond, List, [], ◌∷◌, ℕ, ◌+◌, zero, suc, ◌-◌, ◌*◌, ◌/◌, leb, ℤ, pos, ◌+ℤ◌, ◌-ℤ◌, ◌*ℤ◌, nat_abs}
use Rattle.numbers.specs.Rounding.{floor}
use Rattle.method.specs.words.Types.{Key, Factors, billionths}

-- between the keys l and r, on the straight line through both, rounded down (METHOD 4.3)
unfoldable pub between_keys : Key → Key → ℕ → ℤ
between_keys l r days =
    pos l.rate.0 +ℤ floor ((pos r.rate.0 -ℤ pos l.rate.0) *ℤ (pos days -ℤ pos l.days)) (r.days - l.days)

-- over the keys that are left, where l is the one passed last; past all of them the last one's rate (METHOD 4.2, 4.3)
unfoldable pub rate_from : Key → List Key → ℕ → ℤ
rate_from l [] days = pos l.rate.0
rate_from l (r ∷ keys) days = cond (leb days r.days) (between_keys l r days) (rate_from r keys days)

-- up to the first key, the first key's rate (METHOD 4.1)
unfoldable pub rate_by_keys : List Key → ℕ → ℤ
rate_by_keys [] days = pos 0
rate_by_keys (k ∷ keys) days = cond (leb days k.days) (pos k.rate.0) (rate_from k keys days)

-- as a number of millionths: between two rates it is never negative (METHOD 4.5)
unfoldable pub rate_at : List Key → ℕ → ℕ
rate_at keys days = nat_abs (rate_by_keys keys days)

-- a year's growth in the logarithm, by the share of the year that is left; in billionths (METHOD 5.1)
unfoldable pub exponent : ℕ → ℕ → ℕ
exponent rate days = rate * days * 1_000 / 365

-- the cap (METHOD 5.2)
abbrev pub most_exponent : ℕ
most_exponent = 500_000_000

-- a(k), each rounded down before the next is made of it (METHOD 6.1)
unfoldable pub term : ℕ → ℕ → ℕ
term y zero = 1_000_000_000
term y (suc k) = term y k * y / (suc k * 1_000_000_000)

-- a(0) + .. + a(k)
unfoldable pub series : ℕ → ℕ → ℕ
series y zero = term y zero
series y (suc k) = series y k + term y (suc k)

-- 20 billionths, more than the rounding of the terms takes, but nothing at 0, where it takes nothing (METHOD 6.2)
unfoldable pub outer_part : ℕ → ℕ
outer_part zero = 0
outer_part (suc y) = 20

-- thirteen terms of the exponential series, on the outer side (METHOD 6.2)
unfoldable pub up_factor : ℕ → ℕ
up_factor y = series y 12 + outer_part y

-- one over the up factor, rounded down (METHOD 6.3)
unfoldable pub down_factor : ℕ → ℕ
down_factor y = 1_000_000_000_000_000_000 / up_factor y

unfoldable pub factors_of : ℕ → Factors
factors_of y = record { up = billionths (up_factor y); down = billionths (down_factor y) }
