-- How much of the input is read as the table, and what was read.
use Rattle.std.specs.Prelude.{◌≡◌, cond, List, ℕ, ◌+◌, ◌*◌, ltb, take, Option, Result, IfSome}
use Rattle.std.specs.Io.{ReadsAtMost}
use Rattle.std.specs.Io.KnownBytes.{Consumes}
use Rattle.method.specs.declared.Header.{Header}
use Rattle.method.specs.words.Layout.{header_of, table_length}
use Rattle.method.specs.words.Ranges.{most_contracts, most_keys}

-- a table of as many keys and contracts as there may be
abbrev pub longest_table : ℕ
longest_table = 40 + 8 * most_keys + 40 * most_contracts

-- as the counts say; where that is more than the longest table, the header by itself
unfoldable pub table_end : Header → ℕ
table_end h = cond (ltb longest_table (table_length h)) 40 (table_length h)

-- no further than the slice goes
abbrev pub Within : {E : Type 0} → Result ℕ E → List ℕ → Type 0
Within r room = ReadsAtMost r room

-- ---- what was read, of an input whose bytes are known (`Some` of them) before and after
-- the first n bytes are the input's up to `table_end`, and what follows is left
pub record TableFrom (before after : Option (List ℕ)) (n : ℕ) (room : List ℕ) : Type 0 where
  pub taken : Consumes before after (take n room)
  pub upto : IfSome before (λ input. take n room ≡ take (table_end (header_of input)) input)
