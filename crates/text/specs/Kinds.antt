-- The kind of a row, by its number. Any other number stands for a closing line.
use Rattle.std.specs.Prelude.{cond, ℤ}
use Rattle.text.specs.declared.Kind.{Kind}
use Rattle.text.specs.declared.Kind.TheVariants.{Shift, RefusedEvent, RefusedTable, Closing}
use Rattle.text.specs.Line.{is}

abbrev pub kind_of : ℤ → Kind
kind_of n = cond (is n 1) Shift (cond (is n 2) RefusedEvent (cond (is n 3) RefusedTable Closing))
