-- What the functions of this crate ask, and their callers show.
use Rattle.std.specs.Prelude.{ℕ, ◌≤◌, ℤ}
use Rattle.numbers.specs.Ranges.{Within}
use Rattle.method.specs.words.Ranges.{largest_near_share}
use Rattle.method.specs.computed.Rooms.{largest_limit, PriceIn, BookIn}
use Rattle.pressure.specs.Names.{Millionths, Limits, Price, Book, Line}

pub record LimitsWithin (k : Limits) : Type 0 where
  pub upper : Within largest_limit k.upper.0
  pub lower : Within largest_limit k.lower.0

-- what the near test asks of a distance a - b
pub record Apart (near : ℕ) (k : Limits) (a b : ℤ) : Type 0 where
  pub share : near ≤ largest_near_share
  pub limits : LimitsWithin k
  pub from : Within largest_limit a
  pub to : Within largest_limit b

-- what a price's test asks
pub record Tested (near : Millionths) (k : Limits) (p : Price) : Type 0 where
  pub share : near.0 ≤ largest_near_share
  pub limits : LimitsWithin k
  pub price : PriceIn p

-- what pressure asks of limits and a book, and so of a line
pub record Judgeable (near : Millionths) (k : Limits) (b : Book) : Type 0 where
  pub share : near.0 ≤ largest_near_share
  pub limits : LimitsWithin k
  pub book : BookIn b

abbrev pub JudgeableLine : Millionths → Line → Type 0
JudgeableLine near l = Judgeable near l.limits l.book
