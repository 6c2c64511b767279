-- The tests together say what every session has, and what is read of the memory is what the session has. Assumes nothing.
use Rattle.std.specs.Prelude.{None}
use mathlib.Core.Path.{◌≡◌, sym, ap, ◌∙◌}
use mathlib.Core.List.{List, map}
use Prim.Native.Nat.{ℕ, ◌≤◌, ◌<◌}
use native.Mathlib.Omega.{arith}
use lib.ListN.{length, get_or, take, length-map, get_or-map}
use lib.Seq.{get_or-take, length-take-le}
use Rattle.numbers.specs.declared.Millionths.{Millionths}
use Rattle.method.specs.words.Types.{session_ids, blank}
use Rattle.method.specs.computed.Head.{most_left}
use Rattle.method.specs.computed.Search.{next_due}
use Rattle.method.specs.computed.Rooms.{Room}
use Rattle.method.specs.computed.Sound.{Exact, Distinct}
use Rattle.method.specs.declared.Line.{Line}
use Rattle.method.proofs.Serving.{none_due_done, done_none_due}
use Rattle.host_row.specs.Packed.{line_in}
use Rattle.host_line.proofs.Whole.{rows_all, all_rows}
use Rattle.corridor.specs.declared.Session.{Session}
use Rattle.corridor.specs.View.{view, Valid}
use Rattle.host_memory.proofs.Places.{within}
use Rattle.host_memory.specs.Memory.{no_pair}
use Rattle.host_intact.specs.Tests.{BesideIn, LinesIn}

-- what is decided of a line
abbrev pub Fit : Millionths → ℕ → ℕ → Line → Type 0
Fit near left most l = Room most l × Exact near left l

module _ {s : Session} where
  pub valid-so : length s.lines ≡ 32 → BesideIn s → LinesIn s → Distinct (session_ids (view s)) × (next_due s.clock (view s) ≡ None) → Valid s
  valid-so full b lines (distinct, none) =
      let all = rows_all s.near s.left (most_left (view s)) s.lines s.count (omega (arith, b.few)) lines in
      record {
        full = full;
        few = b.few;
        sane = record { hold = b.hold; end = b.end; clock = b.clock; left = b.left; near = b.near; rooms = all.0 };
        sound = record { waits = b.hold.least; exact = all.1; served = none_due_done s.clock (view s) all.1 none };
        distinct = distinct;
      }

  pub valid_beside : Valid s → BesideIn s
  valid_beside v =
      let r = v.sane in
      record { few = v.few; hold = r.hold; end = r.end; clock = r.clock; left = r.left; near = r.near }

  pub valid-lines : Valid s → LinesIn s
  valid-lines v = all_rows s.near s.left (most_left (view s)) s.lines s.count (omega (arith, v.few, v.full)) v.sane.rooms v.sound.exact

  pub valid_together : Valid s → Distinct (session_ids (view s)) × (next_due s.clock (view s) ≡ None)
  valid_together v = (v.distinct, done_none_due s.clock (view s) v.sound.exact v.sound.served)

-- ---- the pairs that were lent are those of the lines in use
module _ (pairs : List (List (List ℕ))) where
  pub mapped_at : (i : ℕ) → i < length pairs → get_or (map line_in pairs) i blank ≡ line_in (get_or pairs i no_pair)
  mapped_at i h = within (map line_in pairs) i blank (line_in no_pair) (rw length-map h) ∙ get_or-map line_in pairs i no_pair

  module _ (n : ℕ) (lines : List Line) (e : map line_in pairs ≡ take n lines) (few : n ≤ length lines) where
    pub pairs_long : length pairs ≡ n
    pairs_long = sym (length-map pairs line_in) ∙ ap length e ∙ length-take-le n lines few

    pub pair_at : (i : ℕ) → i < n → line_in (get_or pairs i no_pair) ≡ get_or lines i blank
    pair_at i h =
        sym (mapped_at i (rw pairs_long h)) ∙ ap (λ (ls : List Line). get_or ls i blank) e ∙ get_or-take n lines i blank h
