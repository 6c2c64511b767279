-- What a shift and a quote keep of one line, every run keeps of all lines. Assumes nothing.
use Rattle.std.specs.Prelude.{Ok, Err}
use mathlib.Core.List.{List, [], ◌∷◌}
use Prim.Native.Nat.{ℕ, ◌-◌}
use Rattle.method.specs.words.Types.{Side, Seconds, Millionths, Line, ShiftLine, State}
use Rattle.method.specs.words.Ranges.{Every}
use Rattle.method.specs.words.Sessions.{Answer, accepted, refused}
use Rattle.method.specs.computed.Types.{Quote, ReadEvent, Tick, Quoted}
use Rattle.method.specs.computed.Shift.{shift_line, shifted, onward, after}
use Rattle.method.specs.computed.Event.{read, quoted_line, applied, next}
use Rattle.method.specs.computed.Relation.{reached}
use Rattle.method.proofs.Every.{every_map, every_quoted}

module _
    (P : Line → Type 0)
    (on-shift : (near : Millionths) (left : ℕ) (to : Side) (now : Seconds) (l : Line) → P l → P (shift_line near left to now l))
    (on-quote : (near : Millionths) (left : ℕ) (q : Quote) (l : Line) → P l → P (quoted_line near left q l)) where
  pub onward_keeps : (s : State) (c : ShiftLine) → Every P s.lines → Every P (onward s c).lines
  unfolding shifted
  onward_keeps s c h = every_map P P _ (on-shift s.near (s.left - 1) c.side c.second) s.lines h

  pub after_keeps : (cs : List ShiftLine) (s : State) → Every P s.lines → Every P (after cs s).lines
  unfolding after
  after_keeps [] s h = h
  after_keeps (c ∷ cs) s h = after_keeps cs (onward s c) (onward_keeps s c h)

  applied_keeps : (e : ReadEvent) (s : State) → Every P s.lines → Every P (applied e s).lines
  unfolding applied
  applied_keeps (Err why) s h = h
  applied_keeps (Ok (Tick t)) s h = h
  applied_keeps (Ok (Quoted q)) s h = every_quoted s.near s.left q P (on-quote s.near s.left q) s.lines h

  next_keeps : (s : State) (e : ReadEvent) (a : Answer) → Every P s.lines → Every P (next s e a).lines
  unfolding next
  next_keeps s e (refused why) h = h
  next_keeps s e (accepted cs) h = applied_keeps e (after cs s) (after_keeps cs s h)

  pub reached_keeps : (s : State) (bs : List (List ℕ)) (rs : List Answer) → Every P s.lines → Every P (reached s bs rs).lines
  unfolding reached
  reached_keeps s [] rs h = h
  reached_keeps s (b ∷ bs) [] h = h
  reached_keeps s (b ∷ bs) (a ∷ rs) h = reached_keeps (next s (read b) a) bs rs (next_keeps s (read b) a h)
