-- What a host is told of memory that it may have damaged, and of memory in which a table was opened or refused.
use Rattle.std.specs.Prelude.{◌≡◌, List, ℕ, ℤ, pos}
use Rattle.method.specs.told.Refusals.{table_said}
use Rattle.method.specs.computed.Table.{opening}
use Rattle.corridor.specs.View.{left_by_open, Valid}
use Rattle.corridor.specs.Handed.{opened_by}
use Rattle.host_memory.specs.Memory.{Memory, session_in}

-- no refusal of the method has this number
abbrev pub damaged : ℤ
damaged = pos 99

-- where rows are counted: more than any buffer has
abbrev pub damaged_count : ℕ
damaged_count = 18_446_744_073_709_551_615

-- What is told of memory with a sound session, and what of any other.
abbrev pub Tells : Memory → Type 0 → Type 0 → Type 0
Tells memory sound broken = (Valid (session_in memory) → sound) × ((Valid (session_in memory) → ⊥) → broken)

-- For the bytes of a table, the number that `sundewcup_open` says and the memory that it leaves: every function that checks tells of this
-- memory what it tells of a sound session where the number is 0, and where it is a refusal's what it tells of damaged memory, `damaged` or
-- `damaged_count` with everything as it was. So a refused table opens no session in the memory either. [tells_after_open]
abbrev pub TellsAfterOpen : Type 1
TellsAfterOpen =
    (table : List ℕ) (number : ℤ) (memory : Memory) → number ≡ pos (table_said (opened_by table)).number
    → session_in memory ≡ left_by_open (opening table) → (sound broken : Type 0) → Tells memory sound broken
    → (number ≡ pos 0 → sound) × ((number ≡ pos 0 → ⊥) → broken)
