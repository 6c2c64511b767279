-- What a corridor asks, and its callers show.
use Rattle.std.specs.Prelude.{◌≤◌}
use Rattle.method.specs.words.Ranges.{whole}
use Rattle.bounds.specs.Asks.{Drawn}
use Rattle.table_line.specs.Names.{Factors, Market, Millionths}

pub record Spanned (width : Millionths) (f : Factors) (m : Market) : Type 0 where
  pub drawn : Drawn f m
  pub share : width.0 ≤ whole
