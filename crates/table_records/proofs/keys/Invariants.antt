-- The loop of `table_records::keys`: the keys so far, and those in the bytes that are left, are all of them.
use Rattle.std.proofs.Common.{◌≡◌}
use Rattle.std.specs.Slice.Iter.{chunks_exact_rest, chunks_exact_size}
use Rattle.table_records.proofs.Reading.{Taken}
use Rattle.table_records.proofs.keys.Given as goal

abbrev pub invariant-loop-record : goal.invariant-loop-record
invariant-loop-record l =
    (chunks_exact_size l.record-iterator ≡ 8) × Taken l.bytes l.n l.keys.items (chunks_exact_rest l.record-iterator)
