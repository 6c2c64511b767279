-- The loop of `table_ranges::first_bad_key`: from the key at hand on, the search finds what it finds from the first key on.
use Rattle.std.proofs.Common.{◌≡◌, ◌+◌, drop}
use Rattle.method.specs.computed.Table.{bad_key}
use Rattle.table_ranges.proofs.first_bad_key.Given as goal

abbrev pub invariant-loop-i : goal.invariant-loop-i
invariant-loop-i l = bad_key (l.i + 1) l.last (drop l.i l.keys) ≡ bad_key 1 0 l.keys
