-- Where the fields of a morning table stand (METHOD 3).
use Rattle.std.specs.Prelude.{List, [], ◌∷◌, ℕ, ◌+◌, zero, suc, ◌*◌, pos}
use Rattle.method.specs.words.Types.{Header, Key, Contract, steps, millionths, seconds}
use Rattle.method.specs.words.Wire.{word, signed}

-- the header, from byte 0 (METHOD 3.1)
unfoldable pub header_of : List ℕ → Header
header_of b =
    record {
      edition = word b 0;
      contracts = word b 4;
      contractsat = word b 8;
      keys = word b 12;
      keysat = word b 16;
      end = seconds (word b 20);
      hold = seconds (word b 24);
      most = word b 28;
      near = millionths (word b 32);
      shift = millionths (word b 36);
    }

-- the key that begins at a byte (METHOD 3.2)
unfoldable pub key_at : List ℕ → ℕ → Key
key_at b at = record { days = word b at; rate = millionths (word b (at + 4)) }

-- the contract that begins at a byte (METHOD 3.3)
unfoldable pub contract_at : List ℕ → ℕ → Contract
contract_at b at =
    record {
      price = steps (signed (word b at));
      spot = steps (signed (word b (at + 4)));
      least = steps (pos (word b (at + 8)));
      rate1 = millionths (word b (at + 12));
      rate2 = millionths (word b (at + 16));
      rate3 = millionths (word b (at + 20));
      width = millionths (word b (at + 24));
      days = word b (at + 28);
      id = word b (at + 32);
      flags = word b (at + 36);
    }

-- The keys begin at byte 40; the contracts begin where the keys end, and with them the table ends.
abbrev pub contracts_start : Header → ℕ
contracts_start h = 40 + 8 * h.keys

abbrev pub table_length : Header → ℕ
table_length h = contracts_start h + 40 * h.contracts

-- n records, one after another
unfoldable pub keys_at : List ℕ → ℕ → ℕ → List Key
keys_at b at zero = []
keys_at b at (suc n) = key_at b at ∷ keys_at b (at + 8) n

unfoldable pub contracts_at : List ℕ → ℕ → ℕ → List Contract
contracts_at b at zero = []
contracts_at b at (suc n) = contract_at b at ∷ contracts_at b (at + 40) n
