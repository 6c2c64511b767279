-- The price of a quote, once it is read.
use Rattle.std.specs.Prelude.{Bool, true, None, Some}
use Rattle.numbers.specs.Tests.{in_span}
use Rattle.method.specs.words.Types.{Price}
use Rattle.method.specs.words.Ranges.{largest_quote}

-- a price that is present lies in its range
abbrev pub price_in : Price → Bool
price_in None = true
price_in (Some z) = in_span largest_quote z.0
