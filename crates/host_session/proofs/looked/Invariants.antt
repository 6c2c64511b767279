-- The ids of the lines so far; and the second so far, brought forward by the lines that are left, is that of all lines.
use Rattle.std.proofs.Common.{◌≡◌, map, take, drop}
use Rattle.method.specs.words.Types.{seconds}
use Rattle.method.specs.computed.Opening.{ids}
use Rattle.due.specs.Quiet.{until_all}
use Rattle.host_row.specs.Packed.{line_in}
use Rattle.host_session.proofs.looked.Given as goal

abbrev pub invariant-loop-pair : goal.invariant-loop-pair
invariant-loop-pair l =
    record {
      named : l.ids.items ≡ ids (map line_in (take l.pair-index l.pair-items));
      quiet : until_all l.quiet l.head.hold (map line_in (drop l.pair-index l.pair-items)) ≡ until_all (seconds 4_294_967_295) l.head.hold (map line_in l.pair-items);
    }
