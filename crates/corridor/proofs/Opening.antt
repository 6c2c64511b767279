-- The session that a table opens is the method's state, written over a session with no lines. Assumes nothing.
use Rattle.std.specs.Prelude.{Ok, Err}
use mathlib.Core.Path.{◌≡◌, refl, ap, sym, ◌∙◌}
use mathlib.Core.List.{List, ◌++◌}
use Prim.Native.Nat.{ℕ}
use lib.ListN.{length, drop, replicate}
use Rattle.method.specs.words.Types.{State, blank, seconds}
use Rattle.method.specs.words.Tables.{Opening, opened, refused}
use Rattle.method.specs.computed.Table.{opening}
use Rattle.method.specs.computed.Head.{with_lines}
use Rattle.method.proofs.Table.{accepted-table}
use Rattle.table.specs.declared.OpenedTable.{OpenedTable}
use Rattle.table.specs.Opened.{opened_as}
use Rattle.corridor.specs.Names.{Line, Seconds, TableRefusal}
use Rattle.corridor.specs.declared.Session.{Session}
use Rattle.corridor.specs.View.{with_head, opened_session}

-- what `open` makes of an opened table, over 32 lines that are alike
abbrev session-from : Line → OpenedTable → Session
session-from line o =
    record {
      lines = o.lines.items ++ drop (length o.lines.items) (replicate 32 line);
      count = length o.lines.items;
      clock = seconds 0;
      end = o.end;
      hold = o.hold;
      left = o.most;
      near = o.near;
    }

pub opens : (b : List ℕ) (o : OpenedTable) (line : Line) → line ≡ blank → Ok o ≡ opened_as (opening b) → Ok (session-from line o) ≡ opened_session (opening b)
unfolding opened_as opened_session
opens b o line el e = ap (λ (l : Line). Ok (session-from l o)) el ∙ go (opening b) (λ s q. (accepted-table b s q).state.clock) e
  where
    go : (x : Opening) → ((s : State) → x ≡ opened s → s.clock ≡ seconds 0) → Ok o ≡ opened_as x → Ok (session-from blank o) ≡ opened_session x
    go (opened x) h e =
        let same : o ≡ record { lines = record { items = x.lines }; end = x.end; hold = x.hold; most = x.left; near = x.near } = cc in
        ap Ok
        (ap (session-from blank) same
        ∙ ap (λ (t : Seconds). with_head (with_lines x x.lines x.left t) (length x.lines) (x.lines ++ drop (length x.lines) (replicate 32 blank)))
        (sym (h x refl)))
    go (refused why line) h e = absurd (let z : ⊥ = cc in z)

pub opens_none : (b : List ℕ) {r : TableRefusal} → Err r ≡ opened_as (opening b) → Err r ≡ opened_session (opening b)
unfolding opened_as opened_session
opens_none b {r} = go (opening b)
  where
    go : (x : Opening) → Err r ≡ opened_as x → Err r ≡ opened_session x
    go (opened x) e = absurd (let z : ⊥ = cc in z)
    go (refused why line) e = cc
