-- `host_memory::kept`: the first pairs of the memory have the first lines of the session.
use Rattle.std.proofs.Common.{◌≡◌, map, length, take}
use Rattle.host_row.specs.Packed.{line_in}
use Rattle.host_memory.proofs.kept.Given as goal

abbrev pub invariant-loop-place : goal.invariant-loop-place
invariant-loop-place l =
    record { pairs : length l.memory ≡ 33; full : length l.s.lines ≡ 32; so_far : map line_in (take l.place l.memory) ≡ take l.place l.s.lines }
