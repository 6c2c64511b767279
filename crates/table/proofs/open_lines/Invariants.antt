-- The loop of `table::open_lines`: the lines so far, and the contracts in the bytes that are left.
use Rattle.std.proofs.Common.{◌≡◌}
use Rattle.std.specs.Slice.Iter.{chunks_exact_rest, chunks_exact_size}
use Rattle.method.specs.words.Layout.{contracts_start, contracts_at}
use Rattle.table.proofs.Lines.{Opening-lines}
use Rattle.table.proofs.open_lines.Given as goal

abbrev pub invariant-loop-record : goal.invariant-loop-record
invariant-loop-record l =
    (chunks_exact_size l.record-iterator ≡ 40)
    × Opening-lines l.h l.keys (contracts_at l.bytes (contracts_start l.h) l.h.contracts) l.h.contracts l.lines.items (chunks_exact_rest l.record-iterator)
