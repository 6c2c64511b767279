-- The loop of `table_ranges::fields`: the first bad field is the first from the one at hand on.
use Rattle.std.proofs.Common.{◌≡◌, drop}
use Rattle.method.specs.words.Ranges.{contract_fields}
use Rattle.method.specs.computed.Opening.{first_bad, fields_answer}
use Rattle.table_ranges.proofs.fields.Given as goal

abbrev pub invariant-loop-field : goal.invariant-loop-field
invariant-loop-field l = first_bad l.c (drop l.field-index contract_fields) ≡ fields_answer l.c
