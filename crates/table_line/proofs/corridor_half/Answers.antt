-- The bounds are small enough for their distance, and for the product of it and the width.
use Rattle.std.proofs.Common.{◌≡◌, ◌∙◌}
use Rattle.method.specs.words.Opening.{corridor_half}
use Rattle.table_line.proofs.Opening.{share_times_fits, half_is, half_within}
use Rattle.table_line.proofs.corridor_half.Goals as goal

half_at : (c : goal.After-rounded) → c.rounded.result.0 ≡ corridor_half c.args.width c.args.f c.args.m
half_at c =
    c.rounded.ensures
    ∙ half_is c.args.width c.args.f c.args.m c.requires c.bound-upper.result.0 c.bound-lower.result.0 c.from.result c.bound-upper.ensures
    c.bound-lower.ensures c.from.ensures

pub overflow_mul-from : goal.overflow_mul-from
overflow_mul-from c =
    share_times_fits c.args.width c.args.f c.args.m c.requires c.bound-upper.result.0 c.bound-lower.result.0 c.from.result c.bound-upper.ensures
    c.bound-lower.ensures c.from.ensures

pub returns : goal.returns
returns c = record { value = half_at c; range = rw (half_at c) (half_within c.args.width c.args.f c.args.m c.requires) }
