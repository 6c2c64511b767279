-- What each turn of `table::open_lines` hands on, and what its end hands back.
use Rattle.std.proofs.Common.{◌≡◌, ℕ, ◌+◌, ◌-◌, Err, length, take, drop, ap, ◌∙◌, arith, rules}
use Rattle.std.specs.Slice.Iter.{chunks_exact_rest, chunks_exact_size}
use Rattle.method.specs.words.Layout.{contracts_start, contracts_at}
use Rattle.method.specs.words.Tables.{opening_state}
use Rattle.method.specs.computed.Opening.{open_line}
use Rattle.table.specs.Opened.{opened_as}
use Rattle.table.proofs.Lines.{lines_start, lines-refused, lines_turn, lines_all, line_opened, line_refused}
use Rattle.table.proofs.open_lines.Goals as goal

pub loop-record-init : goal.loop-record-init
loop-record-init c =
    let start : ℕ = contracts_start c.args.h in (
      ap chunks_exact_size c.into_iter-record-iterator.ensures.into_iter_gives ∙ c.chunks_exact-record-items.ensures.size,
      rw c.new-lines.ensures
          (lines_start c.args.bytes.now c.args.h c.args.keys.now start c.args.h.contracts _ c.requires.whole
          (ap chunks_exact_rest c.into_iter-record-iterator.ensures.into_iter_gives ∙ c.chunks_exact-record-items.ensures.rest
          ∙ ap (λ (n : ℕ). take n (drop start c.args.bytes.now)) (omega arith))),
    )

pub returns-in_err-opened : goal.returns-in_err-opened
returns-in_err-opened c =
    let s = c.in-Some.ensures.steps in
    let r = line_refused _ c.open_line.result c.map_err.result c.map_err.ensures.cases (length c.loop-record.lines.items + 1) (λ why w k. search rules)
    c.in_err-opened.field-0.0 c.in_err-opened.was
    in
    let e : c.from_residual.result ≡ Err c.in_err-opened.field-0.0 = search rules in
    e ∙ ap Err r.2
    ∙ lines-refused c.args.h c.args.keys.now (contracts_at c.args.bytes.now (contracts_start c.args.h) c.args.h.contracts) c.args.h.contracts
    c.loop-record.lines.items _ c.loop-record.invariant.1 c.in-Some.record.now _ s.1.0 (s.1.1 ∙ c.loop-record.invariant.0) c.open_line.result
    (c.open_line.ensures ∙ (λ i. open_line c.args.h.shift c.args.keys.now (c.deref.ensures.0 i) (c.contract-contract.ensures i))) r.0 r.1

pub loop-record-preserved : goal.loop-record-preserved
loop-record-preserved c =
    let s = c.in-Some.ensures.steps in (
      s.0 ∙ c.loop-record.invariant.0,
      rw c.push.ensures.items
          (lines_turn c.args.h c.args.keys.now (contracts_at c.args.bytes.now (contracts_start c.args.h) c.args.h.contracts) c.args.h.contracts
          c.loop-record.lines.items _ c.loop-record.invariant.1 c.in-Some.record.now _ s.1.0 (s.1.1 ∙ c.loop-record.invariant.0) c.open_line.result
          (c.open_line.ensures ∙ (λ i. open_line c.args.h.shift c.args.keys.now (c.deref.ensures.0 i) (c.contract-contract.ensures i)))
          c.in_ok-opened.opened (line_opened _ c.open_line.result c.map_err.result c.map_err.ensures.cases c.in_ok-opened.opened c.in_ok-opened.was)),
    )

pub returns : goal.returns
unfolding opened_as opening_state
returns c =
    let s = c.in-None.ensures.steps in
    ap opened_as
    (lines_all c.args.h c.args.keys.now (contracts_at c.args.bytes.now (contracts_start c.args.h) c.args.h.contracts) c.args.h.contracts
    c.loop-record.lines.items _ c.loop-record.invariant.1 (rw (← c.loop-record.invariant.0) s.1.0))
