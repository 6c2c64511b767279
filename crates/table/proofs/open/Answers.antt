-- What a table that passes its tests gives to the next ones, and to its lines.
use Rattle.std.proofs.Common.{List, [], length, sym, ap, ◌∙◌, arith}
use Rattle.method.specs.words.Layout.{contracts_start, contracts_at}
use Rattle.method.specs.computed.Table.{bad_key, open_lines}
use Rattle.method.proofs.Decided.{laid_in}
use Rattle.method.proofs.Table.{header_in}
use Rattle.table.specs.Names.{Header, Key}
use Rattle.table.specs.Opened.{opened_as}
use Rattle.table.proofs.Whole.{key_bad, lines_next, lined}
use Rattle.table.proofs.open.Goals as goal

pub keys-keys-requires : goal.keys-keys-requires
keys-keys-requires c =
    let h = header_in c.header-h.result (sym c.header_good.ensures ∙ c.if-not-header_good.false) in
    let l = laid_in c.header-h.result (length c.args.bytes.now) (sym c.laid_out.ensures ∙ c.if-not-laid_out.false) in
    (h.keys.most, omega (arith, l.whole))

pub returns-in-Some : goal.returns-in-Some
unfolding opened_as
returns-in-Some c =
    ap opened_as
    (key_bad c.args.bytes.now c.header-h.result c.header-h.ensures c.if-bytes-lt40.false c.if-h-ne1.false (sym c.header_good.ensures ∙ c.if-not-header_good.false)
    (sym c.laid_out.ensures ∙ c.if-not-laid_out.false) c.keys-keys.result.items c.keys-keys.ensures c.first_bad_key.result
    (c.first_bad_key.ensures ∙ ap (bad_key 1 0) c.deref.ensures.0) c.in-Some.line c.in-Some.is)

pub open_lines-requires : goal.open_lines-requires
open_lines-requires c =
    rw c.deref-2.ensures.0
    (lined c.args.bytes.now c.header-h.result c.header-h.ensures c.if-bytes-lt40.false c.if-h-ne1.false (sym c.header_good.ensures ∙ c.if-not-header_good.false)
    (sym c.laid_out.ensures ∙ c.if-not-laid_out.false) c.keys-keys.result.items c.keys-keys.ensures c.first_bad_key.result
    (c.first_bad_key.ensures ∙ ap (bad_key 1 0) c.deref.ensures.0) c.in_default.is)

pub returns : goal.returns
returns c =
    let h : Header = c.header-h.result in
    c.open_lines.ensures
    ∙ ap (λ (keys : List Key). opened_as (open_lines h keys 1 [] (contracts_at c.args.bytes.now (contracts_start h) h.contracts))) c.deref-2.ensures.0
    ∙ ap opened_as
    (lines_next c.args.bytes.now c.header-h.result c.header-h.ensures c.if-bytes-lt40.false c.if-h-ne1.false
    (sym c.header_good.ensures ∙ c.if-not-header_good.false) (sym c.laid_out.ensures ∙ c.if-not-laid_out.false) c.keys-keys.result.items
    c.keys-keys.ensures c.first_bad_key.result (c.first_bad_key.ensures ∙ ap (bad_key 1 0) c.deref.ensures.0) c.in_default.is)
