-- What an interest bound asks, and its callers show.
use Rattle.numbers.specs.Ranges.{Within}
use Rattle.method.specs.computed.Rooms.{largest_reach, FactorsIn}
use Rattle.bounds.specs.Names.{Factors, Market}

pub record Drawn (f : Factors) (m : Market) : Type 0 where
  pub factors : FactorsIn f
  pub centre : Within largest_reach m.centre.0
  pub half1 : Within largest_reach m.half1.0
