-- Each turn of `table_ranges::fields` passes a field that is good.
use Rattle.std.proofs.Common.{◌≡◌, ℕ, ◌+◌, ◌<◌, true, List, length, get_or, drop, sym, ◌∙◌, add-one, drop-cons, arith}
use Rattle.method.specs.words.Ranges.{contract_fields}
use Rattle.method.specs.computed.Opening.{field_good, first_bad}
use Rattle.table_ranges.specs.Names.{Contract, Field}
use Rattle.table_ranges.proofs.fields.Goals as goal

passed : (c : Contract) (fs : List Field) (i : ℕ) (d : Field) → i < length fs → field_good (get_or fs i d) c ≡ true
    → first_bad c (drop i fs) ≡ first_bad c (drop (i + 1) fs)
unfolding first_bad
passed c fs i d g e = rw (add-one i, drop-cons fs i d g, e)

pub loop-field-preserved : goal.loop-field-preserved
loop-field-preserved c =
    sym (passed c.args.c contract_fields c.loop-field.field-index _ (omega arith) (sym c.field_good.ensures ∙ c.if-not-field_good.false))
    ∙ c.loop-field.invariant
