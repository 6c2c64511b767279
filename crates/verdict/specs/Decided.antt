-- What becomes of an event, from the ids of the table, the session's end and its clock: whether it is refused says the method's `screened`, and
-- one that is not goes on with the place of its line.
use Rattle.std.specs.Prelude.{cond, List, [], ◌∷◌, ℕ, suc, ◌%◌, eqb, Option, None, Some, Result, Ok, Err}
use Rattle.method.specs.told.Questions.{listed}
use Rattle.method.specs.computed.Event.{screened}
use Rattle.method.specs.computed.Relation.{time}
use Rattle.verdict.specs.Names.{Seconds, EventReason, Tick, Quoted, EventAnswer, ReadEvent}
use Rattle.verdict.specs.declared.PlacedQuote.{PlacedQuote}
use Rattle.verdict.specs.declared.Taken.{Taken}

-- the slot of a guess at an id's place: any would do
abbrev pub slot_of : ReadEvent → ℕ
slot_of (Err why) = 0
slot_of (Ok (Tick t)) = 0
slot_of (Ok (Quoted q)) = q.id % 256

-- how many ids stand before this one
unfoldable pub place_of : ℕ → List ℕ → ℕ
place_of id [] = 0
place_of id (j ∷ ids) = cond (eqb j id) 0 (suc (place_of id ids))

-- the place of an id that is one of these
abbrev pub found : ℕ → List ℕ → Option ℕ
found id ids = cond (listed id ids) (Some (place_of id ids)) None

-- what an event changes beside the clock, once it is taken
abbrev pub change_of : List ℕ → ReadEvent → Option PlacedQuote
change_of ids (Err why) = None
change_of ids (Ok (Tick t)) = None
change_of ids (Ok (Quoted q)) = Some (record { place = place_of q.id ids; quote = q })

-- a refusal, or what is taken
abbrev pub verdict_of : {A : Type 0} → EventAnswer → A → Result A EventReason
verdict_of (Err why) v = Err why
verdict_of (Ok accepted) v = Ok v

abbrev pub decided : List ℕ → Seconds → Seconds → ReadEvent → Result Taken EventReason
decided ids end clock e = verdict_of (screened ids end clock e) (record { time = time e; change = change_of ids e })
