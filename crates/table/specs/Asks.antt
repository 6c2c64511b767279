-- What the functions of this crate ask, and their callers show.
use Rattle.std.specs.Prelude.{List, ℕ, ◌<◌, ◌≤◌, length}
use Rattle.numbers.specs.Ranges.{Between}
use Rattle.method.specs.words.Layout.{table_length}
use Rattle.method.specs.words.Ranges.{whole, HeaderIn, KeysIn}
use Rattle.table.specs.Names.{Millionths, Header, Key}

-- the shift share and the keys, checked
pub record Ready (shift : Millionths) (keys : List Key) : Type 0 where
  pub share : Between 1 whole shift.0
  pub some : 0 < length keys
  pub good : KeysIn 0 keys

-- a header and keys that passed their tests, with all contracts in the bytes
pub record Lined (h : Header) (keys : List Key) (size : ℕ) : Type 0 where
  pub header : HeaderIn h
  pub some : 0 < length keys
  pub good : KeysIn 0 keys
  pub whole : table_length h ≤ size
