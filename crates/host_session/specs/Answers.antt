-- What is told of a table and an event, to a host in numbers, and what stands in its memory then.
use Rattle.std.specs.Prelude.{◌≡◌, List, [], map, ℕ, ℤ, pos, length, Result, Ok, Err}
use Rattle.method.specs.told.Refusals.{field_number}
use Rattle.method.specs.told.Rows.{numbers_of}
use Rattle.method.specs.declared.Row.TheVariants as Row
use Rattle.corridor.specs.Reply.{Shifts}
use Rattle.corridor.specs.Engine.{reply_to}
use Rattle.host_memory.specs.Memory.{Memory, session_in}
use Rattle.host_session.specs.Names.{TableRefusal, EventReason, Session}

-- ---- a table
-- whether it is opened, or its refusal
abbrev pub opened_or_not : Result Session TableRefusal → Result (Unit {0}) TableRefusal
opened_or_not (Ok s) = Ok tt
opened_or_not (Err r) = Err r

-- the line of a refusal, 0 where the table is opened
abbrev pub line_said : {A : Type 0} → Result A TableRefusal → ℤ
line_said (Ok opened) = pos 0
line_said (Err r) = pos r.line

-- the place of the field that it names, 0 where it names none
abbrev pub field_said : {A : Type 0} → Result A TableRefusal → ℤ
field_said (Ok opened) = pos 0
field_said (Err r) = pos (field_number r.reason)

-- ---- an event
-- the reply to the bytes b by the session that stands in the memory
abbrev pub reply_in : Memory → List ℕ → Result Shifts EventReason
reply_in memory b = reply_to (session_in memory) b

-- how many shift lines it has, or its refusal
abbrev pub made_in : Result Shifts EventReason → Result ℕ EventReason
made_in (Ok cs) = Ok (length cs.items)
made_in (Err why) = Err why

-- that number, 0 where it refuses
abbrev pub made_by : Result Shifts EventReason → ℕ
made_by (Ok cs) = length cs.items
made_by (Err why) = 0

-- its shift lines, as rows of numbers
abbrev pub shift_rows : Result Shifts EventReason → List ℤ
shift_rows (Ok cs) = numbers_of (map Row.Shift cs.items)
shift_rows (Err why) = []

-- What an answer leaves in the memory: the session s; and where the answer is no 0, every number as it was.
pub record Leaves (number : ℤ) (before after : Memory) (s : Session) : Type 0 where
  pub session : session_in after ≡ s
  pub untouched : (number ≡ pos 0 → ⊥) → after ≡ before
