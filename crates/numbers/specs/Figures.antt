-- Figures of rounding, computed by the checker.
use Rattle.std.specs.Prelude.{◌≡◌, refl, pos, negsuc}
use Rattle.numbers.specs.Rounding.{floor, ceiling}

-- on each side of zero, and at it: -11, -10, -1, 0, 9, 10 by 10
floor_minus_eleven : floor (negsuc 10) 10 ≡ negsuc 1
floor_minus_eleven = refl

floor_minus_ten : floor (negsuc 9) 10 ≡ negsuc 0
floor_minus_ten = refl

floor_minus_one : floor (negsuc 0) 10 ≡ negsuc 0
floor_minus_one = refl

floor_zero : floor (pos 0) 10 ≡ pos 0
floor_zero = refl

floor_nine : floor (pos 9) 10 ≡ pos 0
floor_nine = refl

floor_ten : floor (pos 10) 10 ≡ pos 1
floor_ten = refl

-- -10, -9, 0, 1, 10, 11 by 10
ceiling_minus_ten : ceiling (negsuc 9) 10 ≡ negsuc 0
ceiling_minus_ten = refl

ceiling_minus_nine : ceiling (negsuc 8) 10 ≡ pos 0
ceiling_minus_nine = refl

ceiling_zero : ceiling (pos 0) 10 ≡ pos 0
ceiling_zero = refl

ceiling_one : ceiling (pos 1) 10 ≡ pos 1
ceiling_one = refl

ceiling_ten : ceiling (pos 10) 10 ≡ pos 1
ceiling_ten = refl

ceiling_eleven : ceiling (pos 11) 10 ≡ pos 2
ceiling_eleven = refl
