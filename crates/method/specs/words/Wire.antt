-- Fields out of bytes (METHOD 2). A byte is a number below 256; past the last one 0 is read.
use Rattle.std.specs.Prelude.{cond, Bool, List, ℕ, ◌+◌, ◌*◌, ◌/◌, ◌%◌, ◌^◌, ltb, eqb, ℤ, pos, ◌-ℤ◌, get_or}

-- the field whose lowest byte stands at `at`
unfoldable pub word : List ℕ → ℕ → ℕ
word bytes at = get_or bytes at 0 + get_or bytes (at + 1) 0 * 256 + get_or bytes (at + 2) 0 * 65_536 + get_or bytes (at + 3) 0 * 16_777_216

-- 32 bits as two's complement
unfoldable pub signed : ℕ → ℤ
signed n = cond (ltb n 2_147_483_648) (pos n) (pos n -ℤ pos 4_294_967_296)

-- bit n of a flag word
unfoldable pub bit : ℕ → ℕ → Bool
bit n flags = eqb (flags / 2 ^ n % 2) 1
