-- A table whose header and layout are good: how `open` ends then is the method's answer, and what its lines ask. Assumes nothing.
use mathlib.Core.Path.{◌≡◌, sym, ap, ◌∙◌}
use mathlib.Core.Bool.{true}
use mathlib.Core.List.{List, []}
use Prim.Native.Nat.{ℕ, ◌≤◌}
use native.Mathlib.Omega.{arith}
use borrow.Author.Tests.{le-leb, eq-eqb}
use lib.ListN.{length}
use Rattle.std.specs.Prelude.{Option, Some, None}
use Rattle.method.specs.words.Layout.{header_of, keys_at, contracts_start, contracts_at}
use Rattle.method.specs.words.Tables.{refused}
use Rattle.method.specs.computed.Table.{header_good, laid_out, bad_key, open_lines, if_keys_good, open_records, opening}
use Rattle.method.proofs.Decided.{laid_in}
use Rattle.method.proofs.Table.{header_in, keys_in}
use Rattle.table_records.proofs.Reading.{keys_length}
use Rattle.table.specs.Names.{Header, Key, TableReason}
use Rattle.table.specs.Asks.{Lined}

module _ (b : List ℕ) (h : Header) (e : h ≡ header_of b) (long : 40 ≤ length b) (edition : h.edition ≡ 1) (ranges : header_good h ≡ true)
    (laid : laid_out h (length b) ≡ true) (keys : List Key) (ek : keys ≡ keys_at b 40 h.keys) where
  records : opening b ≡ if_keys_good (bad_key 1 0 keys) (open_lines h keys 1 [] (contracts_at b (contracts_start h) h.contracts))
  unfolding opening open_records
  records = rw (le-leb 40 (length b) long, ← e, eq-eqb h.edition 1 edition, ranges, laid, ek)

  module _ (bad : Option ℕ) (eb : bad ≡ bad_key 1 0 keys) where
    records-by : opening b ≡ if_keys_good bad (open_lines h keys 1 [] (contracts_at b (contracts_start h) h.contracts))
    records-by = records ∙ ap (λ (k : Option ℕ). if_keys_good k (open_lines h keys 1 [] (contracts_at b (contracts_start h) h.contracts))) (sym eb)

    pub key_bad : (line : ℕ) → bad ≡ Some line → refused TableReason.Key line ≡ opening b
    key_bad line q = sym (records-by ∙ rw q)

    pub lines_next : bad ≡ None → open_lines h keys 1 [] (contracts_at b (contracts_start h) h.contracts) ≡ opening b
    lines_next q = sym (records-by ∙ rw q)

    pub lined : bad ≡ None → Lined h keys (length b)
    lined q =
        record {
          header = header_in h ranges;
          some = rw (ek, keys_length b 40 h.keys) (header_in h ranges).keys.least;
          good = keys_in 1 0 keys (sym eb ∙ q);
          whole = omega (arith, (laid_in h (length b) laid).whole);
        }
