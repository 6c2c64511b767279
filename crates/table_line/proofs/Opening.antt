-- What the steps of the opening numbers come to fits an `i64`, from the contract's ranges. Assumes nothing.
use mathlib.Core.Path.{◌≡◌}
use Prim.Native.Nat.{◌*◌}
use lib.Dec.{lit<, lit≤}
use lib.IntN.{ℤ, pos, ◌-ℤ◌, ◌*ℤ◌}
use mir.Syntax.{w64}
use mir.Val.{SFits, to_z, of_z}
use mir.Facts.{to_z-of_z}
use Rattle.numbers.specs.Ranges.{Within}
use Rattle.numbers.specs.Rounding.{floor}
use Rattle.numbers.proofs.Ranges.{fits, floor_within, within_sub, within_mul, within_pos, within_more}
use Rattle.method.specs.words.Ranges.{whole}
use Rattle.method.specs.words.Bounds.{bound}
use Rattle.method.specs.words.Opening.{corridor_half}
use Rattle.method.specs.computed.Rooms.{largest_bound}
use Rattle.bounds.proofs.Drawing.{drawn_within}
use Rattle.table_line.specs.Names.{Up, Down, Millionths, Factors, Market}
use Rattle.table_line.specs.Asks.{Spanned}

-- ---- half of a corridor, from the bounds u and l, and the width w as a number of 64 bits
module _ (width : Millionths) (f : Factors) (m : Market) (s : Spanned width f m) (u l w : ℤ) (eu : u ≡ bound Up f m) (el : l ≡ bound Down f m) (ew : w ≡ pos width.0) where
  upper_within : Within largest_bound u
  upper_within = rw eu (drawn_within s.drawn Up)

  lower_within : Within largest_bound l
  lower_within = rw el (drawn_within s.drawn Down)

  share_within : Within whole w
  share_within = rw ew (within_pos s.share)

  abbrev apart_back : ℤ
  apart_back = to_z w64 (of_z w64 u) -ℤ to_z w64 (of_z w64 l)

  apart_is : apart_back ≡ u -ℤ l
  apart_is = rw (to_z-of_z (fits upper_within (lit< tt)), to_z-of_z (fits lower_within (lit< tt)))

  pub apart_fits : SFits w64 apart_back
  apart_fits = rw apart_is (fits (within_sub upper_within lower_within) (lit< tt))

  abbrev share_back : ℤ
  share_back = to_z w64 (of_z w64 w) *ℤ to_z w64 (of_z w64 apart_back)

  share-is : share_back ≡ w *ℤ (u -ℤ l)
  share-is = rw (to_z-of_z apart_fits, apart_is, to_z-of_z (fits share_within (lit< tt)))

  pub share_times_fits : SFits w64 share_back
  share_times_fits = rw share-is (fits (within_mul share_within (within_sub upper_within lower_within)) (lit< tt))

  pub half_is : floor (to_z w64 (of_z w64 share_back)) (2 * whole) ≡ corridor_half width f m
  unfolding corridor_half
  half_is = rw (to_z-of_z share_times_fits, share-is, eu, el, ew)

pub half_within : (width : Millionths) (f : Factors) (m : Market) → Spanned width f m → Within largest_bound (corridor_half width f m)
unfolding corridor_half
half_within width f m s =
    floor_within largest_bound (2 * whole) (lit< tt)
    (within_more (within_mul (within_pos s.share) (within_sub (drawn_within s.drawn Up) (drawn_within s.drawn Down))) (lit≤ tt))
