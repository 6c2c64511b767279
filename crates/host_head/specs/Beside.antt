-- The ranges of what a session has beside its lines: how many lines are in use, and the fields of `Sane` but the lines' own.
use Rattle.std.specs.Prelude.{◌≤◌}
use Rattle.numbers.specs.Ranges.{Between}
use Rattle.method.specs.words.Ranges.{most_contracts, longest_session, longest_hold, most_shifts, largest_near_share}
use Rattle.host_row.specs.declared.Head.{Head}

pub record Beside (h : Head) : Type 0 where
  pub few : h.count ≤ most_contracts
  pub hold : Between 1 longest_hold h.hold.0
  pub end : h.end.0 ≤ longest_session
  pub clock : h.clock.0 ≤ h.end.0
  pub left : h.left ≤ most_shifts
  pub near : Between 1 largest_near_share h.near.0
