-- Each turn of `table_records::keys` reads one key more.
use Rattle.std.proofs.Common.{ℕ, take, drop, ap, ◌∙◌, arith}
use Rattle.std.specs.Slice.Iter.{chunks_exact_rest, chunks_exact_size}
use Rattle.table_records.proofs.Reading.{taken_start, taken_turn, taken_all}
use Rattle.table_records.proofs.keys.Goals as goal

pub loop-record-init : goal.loop-record-init
loop-record-init c = (
  ap chunks_exact_size c.into_iter-record-iterator.ensures.into_iter_gives ∙ c.chunks_exact-record-items.ensures.size,
  rw c.new-keys.ensures
      (taken_start c.args.bytes.now c.args.n _ c.requires.1
      (ap chunks_exact_rest c.into_iter-record-iterator.ensures.into_iter_gives ∙ c.chunks_exact-record-items.ensures.rest ∙ ap (λ (k : ℕ). take k (drop 40 c.args.bytes.now)) (omega arith))),
)

pub loop-record-preserved : goal.loop-record-preserved
loop-record-preserved c =
    let s = c.in-Some.ensures.steps in (
      s.0 ∙ c.loop-record.invariant.0,
      rw c.push.ensures.items
          (taken_turn c.args.bytes.now c.args.n c.loop-record.keys.items _ c.loop-record.invariant.1 c.in-Some.record.now _ s.1.0
          (s.1.1 ∙ c.loop-record.invariant.0) c.key.result c.key.ensures),
    )

pub returns : goal.returns
returns c =
    let s = c.in-None.ensures.steps in
    taken_all c.args.bytes.now c.args.n c.loop-record.keys.items _ c.loop-record.invariant.1 (rw (← c.loop-record.invariant.0) s.1.0)
