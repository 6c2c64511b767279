-- What the functions of this crate ask, and their callers show.
use Rattle.std.specs.Prelude.{List, ℕ, ◌≤◌, ◌<◌, length}
use Rattle.method.specs.words.Ranges.{largest_rate, most_days, KeysIn}
use Rattle.growth.specs.Names.{Key}

-- two keys with the days left between them
pub record Neighbours (l r : Key) (days : ℕ) : Type 0 where
  pub low_rate : l.rate.0 ≤ largest_rate
  pub high_rate : r.rate.0 ≤ largest_rate
  pub from : l.days < days
  pub to : days ≤ r.days
  pub days_small : days ≤ most_days
  pub last_small : r.days ≤ most_days

-- the keys of a table, checked
pub record Searched (keys : List Key) (days : ℕ) : Type 0 where
  pub some : 0 < length keys
  pub good : KeysIn 0 keys
  pub days_small : days ≤ most_days
