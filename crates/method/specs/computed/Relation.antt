-- Which answers are right, over the computed state steps: the relation that the proofs and the crates above work with. It is the words' (`SameAnswers`).
use Rattle.std.specs.Prelude.{List, [], ◌∷◌, ◌≡◌, ℕ, Ok, Err}
use Rattle.method.specs.words.Types.{Seconds, ShiftLine, seconds, State}
use Rattle.method.specs.words.Holds.{First, Done}
use Rattle.method.specs.words.Sessions.{Answer, accepted, refused}
use Rattle.method.specs.computed.Types.{ReadEvent, Tick, Quoted}
use Rattle.method.specs.computed.Shift.{onward}
use Rattle.method.specs.computed.Event.{read, verdict, next}

-- the shift lines that an event at t calls for: none where no hold is left to serve, else the first one's and then those of the
-- shifted state
unfoldable pub Calls : Seconds → State → List ShiftLine → Type 0
Calls t s [] = Done t s
Calls t s (c ∷ cs) = First t s c × Calls t (onward s c) cs

abbrev pub time : ReadEvent → Seconds
time (Err why) = seconds 0
time (Ok (Tick t)) = t
time (Ok (Quoted q)) = q.time

-- the right answer to one event
unfoldable pub Right : State → ReadEvent → Answer → Type 0
Right s e (accepted cs) = (verdict s e ≡ Ok tt) × Calls (time e) s cs
Right s e (refused why) = verdict s e ≡ Err why

-- the right answers to a list of byte strings, each in the state that the answers before it leave
unfoldable pub Answers : State → List (List ℕ) → List Answer → Type 0
Answers s [] [] = Unit {0}
Answers s [] (a ∷ rs) = ⊥
Answers s (b ∷ bs) [] = ⊥
Answers s (b ∷ bs) (a ∷ rs) = Right s (read b) a × Answers (next s (read b) a) bs rs

-- the state that a list of answers leaves
unfoldable pub reached : State → List (List ℕ) → List Answer → State
reached s [] rs = s
reached s (b ∷ bs) [] = s
reached s (b ∷ bs) (a ∷ rs) = reached (next s (read b) a) bs rs
