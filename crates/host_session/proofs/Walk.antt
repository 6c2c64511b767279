-- A walk over the pairs of a session's lines. Assumes nothing.
use mathlib.Core.Path.{◌≡◌, sym, subst, ap, ◌∙◌}
use mathlib.Core.List.{List, [], map}
use Prim.Native.Nat.{ℕ, ◌≤◌, ◌<◌}
use native.Mathlib.Omega.{arith}
use lib.ListN.{length, get_or, length-map, get_or-map}
use Rattle.method.specs.words.Types.{blank}
use Rattle.method.specs.words.Ranges.{longest_hold}
use Rattle.method.specs.computed.Rooms.{HoldsIn}
use Rattle.corridor.specs.View.{view, Valid}
use Rattle.corridor.proofs.Views.{ranged, view-length}
use Rattle.corridor.proofs.Due.{row_passes}
use Rattle.host_row.specs.Packed.{line_in}
use Rattle.host_memory.proofs.Places.{within}
use Rattle.host_session.specs.Names.{Line, Session}

-- what passing a pair asks
pub pair_passes : (s : Session) (pairs : List (List (List ℕ))) (i : ℕ) → Valid s → map line_in pairs ≡ (view s).lines → i < length pairs
    → HoldsIn (line_in (get_or pairs i [])).holds × (s.hold.0 ≤ longest_hold)
pair_passes s pairs i v e h =
    let long : length pairs ≡ s.count = sym (length-map pairs line_in) ∙ ap length e ∙ view-length v in
    let here : line_in (get_or pairs i []) ≡ get_or (view s).lines i blank =
    sym (get_or-map line_in pairs i []) ∙ within (map line_in pairs) i (line_in []) blank (omega (arith, length-map pairs line_in)) ∙ ap (λ (ls : List Line). get_or ls i blank) e in
    subst (λ (l : Line). HoldsIn l.holds × (s.hold.0 ≤ longest_hold)) (sym here) (row_passes i (ranged v) (omega arith))
