-- What is tested of a session, one thing after the other.
use Rattle.std.specs.Prelude.{ℕ, ◌<◌, get_or}
use Rattle.method.specs.words.Types.{blank}
use Rattle.method.specs.computed.Head.{most_left}
use Rattle.method.specs.computed.Rooms.{Room}
use Rattle.method.specs.computed.Sound.{Exact}
use Rattle.host_head.specs.Beside.{Beside}
use Rattle.corridor.specs.declared.Session.{Session}
use Rattle.corridor.specs.View.{view}

-- what it has beside its lines
abbrev pub BesideIn : Session → Type 0
BesideIn s =
    Beside
    (record {
      count = s.count;
      clock = s.clock;
      end = s.end;
      hold = s.hold;
      left = most_left (view s);
      near = s.near;
    })

-- each line by itself
abbrev pub LinesIn : Session → Type 0
LinesIn s = (i : ℕ) → i < s.count → Room (most_left (view s)) (get_or s.lines i blank) × Exact s.near s.left (get_or s.lines i blank)
