-- A table opened, or refused with its line, test by test in the order of METHOD 11. Every list of bytes has an answer.
use Rattle.std.specs.Prelude.{cond, Bool, ◌&&◌, List, [], ◌∷◌, ◌++◌, ℕ, suc, ltb, leb, eqb, length, Ok, Err, Option, None, Some}
use Rattle.numbers.specs.Tests.{in_range}
use Rattle.method.specs.words.Types.{Header, Key, Contract, Line, TableReason}
use Rattle.method.specs.words.Layout.{header_of, contracts_start, table_length, keys_at, contracts_at}
use Rattle.method.specs.words.Ranges.{most_contracts, most_keys, longest_session, longest_hold, most_shifts, largest_near_share, whole, largest_rate, most_days}
use Rattle.method.specs.words.Tables.{Opening, opened, refused, opening_state}
use Rattle.method.specs.told.Questions.{demand}
use Rattle.method.specs.computed.Types.{LineAnswer}
use Rattle.method.specs.computed.Opening.{open_line}

-- ---- the header: refusal 3, and the rest of refusal 1
unfoldable pub header_good : Header → Bool
header_good h =
    in_range 1 most_contracts h.contracts && in_range 1 most_keys h.keys && in_range 1 longest_session h.end.0 && in_range 1 longest_hold h.hold.0
    && leb h.most most_shifts && in_range 1 largest_near_share h.near.0 && in_range 1 whole h.shift.0

unfoldable pub laid_out : Header → ℕ → Bool
laid_out h size = eqb h.keysat 40 && eqb h.contractsat (contracts_start h) && eqb size (table_length h)

-- ---- the keys: refusal 4
unfoldable pub key_good : ℕ → Key → Bool
key_good before k = in_range 1 most_days k.days && ltb before k.days && leb k.rate.0 largest_rate

-- the line of the first bad key, if there is one; `before` has the days of the key before it
unfoldable pub bad_key : ℕ → ℕ → List Key → Option ℕ
bad_key line before [] = None
bad_key line before (k ∷ keys) = cond (key_good before k) (bad_key (suc line) k.days keys) (Some line)

abbrev pub if_opened : LineAnswer → ℕ → (Line → Opening) → Opening
if_opened (Ok l) line onward = onward l
if_opened (Err why) line onward = refused why line

-- the contracts from a line on, after the lines that are opened already
unfoldable pub open_lines : Header → List Key → ℕ → List Line → List Contract → Opening
open_lines h keys line earlier [] = opened (opening_state h earlier)
open_lines h keys line earlier (c ∷ cs) =
    if_opened (open_line h.shift keys earlier c) line (λ (l : Line). open_lines h keys (suc line) (earlier ++ (l ∷ [])) cs)

abbrev pub if_keys_good : Option ℕ → Opening → Opening
if_keys_good None onward = onward
if_keys_good (Some line) onward = refused TableReason.Key line

unfoldable pub open_records : Header → List Key → List Contract → Opening
open_records h keys cs = if_keys_good (bad_key 1 0 keys) (open_lines h keys 1 [] cs)

unfoldable pub opening : List ℕ → Opening
opening b =
    let h : Header = header_of b in
    demand (leb 40 (length b)) (refused TableReason.Length 0)
    (demand (eqb h.edition 1) (refused TableReason.Edition 0)
    (demand (header_good h) (refused TableReason.Header 0)
    (demand (laid_out h (length b)) (refused TableReason.Length 0)
    (open_records h (keys_at b 40 h.keys) (contracts_at b (contracts_start h) h.contracts)))))
