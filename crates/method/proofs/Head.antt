-- What a session has beside its lines: what the table fixed, which every step keeps, and how many shifts may still be made. A number that the
-- head is given later is spoken of here and in the words; no other proof writes a state out. Assumes nothing.
use Rattle.std.specs.Prelude.{Ok, Err}
use mathlib.Core.Path.{◌≡◌, refl, sym, ◌∙◌}
use mathlib.Core.List.{List, [], ◌∷◌}
use Prim.Native.Nat.{ℕ, ◌-◌, ◌≤◌, ◌<◌}
use native.Mathlib.Omega.{arith}
use Rattle.method.specs.words.Types.{Header, Side, Seconds, Line, ShiftLine, State}
use Rattle.method.specs.words.Tables.{opening_state}
use Rattle.method.specs.words.Sessions.{SameTable}
use Rattle.method.specs.computed.Types.{ReadEvent, Tick, Quoted}
use Rattle.method.specs.computed.Head.{with_lines, most_left}
use Rattle.method.specs.computed.Shift.{shifted, onward, after}
use Rattle.method.specs.computed.Event.{applied}

-- ---- what the table fixed
pub same-table : (s : State) → SameTable s s
same-table s = record { end = refl; hold = refl; near = refl }

pub table_on : {s m n : State} → SameTable s m → SameTable m n → SameTable s n
table_on p q = record { end = cc; hold = cc; near = cc }

-- other lines, shifts left and clock leave it
pub with_lines-kept : (s : State) (ls : List Line) (left : ℕ) (clock : Seconds) → SameTable s (with_lines s ls left clock)
with_lines-kept s ls left clock = record { end = refl; hold = refl; near = refl }

pub onward-kept : (s : State) (c : ShiftLine) → SameTable s (onward s c)
unfolding shifted
onward-kept s c = with_lines-kept s _ _ _

pub after_kept : (cs : List ShiftLine) (s : State) → SameTable s (after cs s)
unfolding after
after_kept [] s = same-table s
after_kept (c ∷ cs) s = table_on (onward-kept s c) (after_kept cs (onward s c))

pub applied-kept : (e : ReadEvent) (s : State) → SameTable s (applied e s)
unfolding applied
applied-kept (Err why) s = same-table s
applied-kept (Ok (Tick t)) s = with_lines-kept s _ _ _
applied-kept (Ok (Quoted q)) s = with_lines-kept s _ _ _

-- and with lines, shifts left and clock it leaves one state
pub state-one : {s n r : State} → n.lines ≡ r.lines → n.left ≡ r.left → n.clock ≡ r.clock → SameTable s n → SameTable s r → n ≡ r
state-one lines left clock p q =
    λ i. record {
      lines = lines i;
      clock = clock i;
      end = (p.end ∙ sym q.end) i;
      hold = (p.hold ∙ sym q.hold) i;
      left = left i;
      near = (p.near ∙ sym q.near) i;
    }

-- ---- the shifts left: one fewer with each shift, as many with an event
pub left-onward : (s : State) (c : ShiftLine) → (onward s c).left ≡ s.left - 1
unfolding shifted
left-onward s c = refl

pub left-applied : (e : ReadEvent) (s : State) → (applied e s).left ≡ s.left
unfolding applied
left-applied (Err why) s = refl
left-applied (Ok (Tick t)) s = refl
left-applied (Ok (Quoted q)) s = refl

-- ---- the shifts that may still be made in all: no fewer than are left now, fewer with each shift, no more with an event
pub left_within : (s : State) → s.left ≤ most_left s
unfolding most_left
left_within s = omega arith

pub most-opened : (h : Header) (ls : List Line) → most_left (opening_state h ls) ≡ h.most
unfolding most_left opening_state
most-opened h ls = refl

pub most-shifted : (side : Side) (now : Seconds) (s : State) → 0 < s.left → most_left (shifted side now s) < most_left s
unfolding most_left shifted
most-shifted side now s h = omega arith

pub most-applied : (e : ReadEvent) (s : State) → most_left (applied e s) ≤ most_left s
unfolding most_left applied
most-applied (Err why) s = omega arith
most-applied (Ok (Tick t)) s = omega arith
most-applied (Ok (Quoted q)) s = omega arith
