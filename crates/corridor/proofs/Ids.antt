-- Shifts and events leave the ids of a session's lines as they are. Assumes nothing.
use Rattle.std.specs.Prelude.{Ok, Err}
use mathlib.Core.Path.{◌≡◌, refl, ap, ◌∙◌}
use mathlib.Core.List.{List, [], ◌∷◌}
use Prim.Native.Nat.{ℕ, ◌-◌}
use lib.Dec.{eqb}
use Rattle.method.specs.words.Types.{State, session_ids}
use Rattle.method.specs.words.Sessions.{Answer, accepted, refused}
use Rattle.method.specs.computed.Opening.{ids}
use Rattle.method.specs.computed.Judge.{judge_line}
use Rattle.method.specs.computed.Shift.{shifted, onward, after}
use Rattle.method.specs.computed.Event.{quoted_line, quoted, applied, next}
use Rattle.method.proofs.Demands.{by_cond}
use Rattle.method.proofs.Events.{ids-shifted}
use Rattle.corridor.specs.Names.{Millionths, Line, Quote, ReadEvent, Tick, Quoted, ShiftLine}

pub ids-after : (cs : List ShiftLine) (s : State) → session_ids (after cs s) ≡ session_ids s
unfolding after shifted
ids-after [] s = refl
ids-after (c ∷ cs) s = ids-after cs (onward s c) ∙ ids-shifted s.near (s.left - 1) c.side c.second s.lines

ids-quoted : (near : Millionths) (left : ℕ) (q : Quote) (ls : List Line) → ids (quoted near left q ls) ≡ ids ls
unfolding quoted quoted_line judge_line
ids-quoted near left q [] = refl
ids-quoted near left q (l ∷ ls) =
    by_cond (λ (zs : List Line). ids zs ≡ l.terms.id ∷ ids ls) (eqb l.terms.id q.id) (λ e. refl)
    (λ e. ap (λ (js : List ℕ). l.terms.id ∷ js) (ids-quoted near left q ls))

pub ids-applied : (e : ReadEvent) (s : State) → session_ids (applied e s) ≡ session_ids s
unfolding applied
ids-applied (Err why) s = refl
ids-applied (Ok (Tick t)) s = refl
ids-applied (Ok (Quoted q)) s = ids-quoted s.near s.left q s.lines

pub ids_next : (s : State) (e : ReadEvent) (a : Answer) → session_ids (next s e a) ≡ session_ids s
unfolding next
ids_next s e (accepted cs) = ids-applied e (after cs s) ∙ ids-after cs s
ids_next s e (refused why) = refl
