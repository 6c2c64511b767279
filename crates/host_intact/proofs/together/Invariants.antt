-- `host_intact::together`: of the lines so far, the ids are gathered and the hold that falls due first is found.
use Rattle.std.proofs.Common.{◌≡◌, map, length, take, drop, None}
use Rattle.method.specs.computed.Opening.{ids}
use Rattle.method.specs.computed.Search.{earliest}
use Rattle.host_row.specs.Packed.{line_in}
use Rattle.host_intact.proofs.together.Given as goal

abbrev pub invariant-loop-place : goal.invariant-loop-place
invariant-loop-place l =
    record {
      best : earliest l.head.hold l.place (map line_in (drop l.place l.pair-items)) l.best ≡ earliest l.head.hold 0 (map line_in l.pair-items) None;
      ids : l.ids.items ≡ ids (map line_in (take l.place l.pair-items));
      long : length l.ids.items ≡ l.place;
    }
