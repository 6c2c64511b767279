-- The decimals that the library makes are those that the method gives a number. Assumes nothing.
use Rattle.std.proofs.Common.{◌≡◌, ℕ, ◌<◌, ◌≤◌, ◌^◌, ◌/◌, ◌%◌, ◌+◌, suc, List, [], ◌∷◌, ◌++◌, ℤ, pos, negsuc, sym, ap, arith}
use lib.Signed.{mag}
use Rattle.std.specs.Fmt.{decimal as printed, signed_decimal as printed_signed}
use Rattle.std.proofs.lemmas.Fmt.{decimal_from_appends, length-decimal-le_succ}
use borrow.Author.Tests.{lt-ltb, le-ltb}
use Rattle.method.specs.told.Text.{decimal_in, decimal, signed_text}

one_digit : (turns n : ℕ) → n < 10 → decimal_in (suc turns) n ≡ (48 + n) ∷ []
unfolding decimal_in
one_digit turns n h = rw (lt-ltb n 10 h)

more_digits : (turns n : ℕ) → 10 ≤ n → decimal_in (suc turns) n ≡ decimal_in turns (n / 10) ++ ((48 + n % 10) ∷ [])
unfolding decimal_in
more_digits turns n h = rw (le-ltb n 10 h)

-- the turns of `decimal` are more than a number has digits
pub decimal-is : (n : ℕ) → n < 2 ^ 64 → printed n ≡ decimal n
decimal-is n h =
    sym (decimal_from_appends decimal_in (record { one = one_digit; more = more_digits }) (suc n) n h (omega (arith, length-decimal-le_succ n h)))

pub signed-is : (z : ℤ) → mag z < 2 ^ 63 → printed_signed z ≡ signed_text z
signed-is (pos n) h = decimal-is n (omega arith)
signed-is (negsuc n) h = ap (λ (ds : List ℕ). 45 ∷ ds) (decimal-is (suc n) (omega arith))
