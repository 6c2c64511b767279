-- The memory that `sundewcup_open` leaves holds a sound session exactly where no refusal is said. Assumes nothing.
use Rattle.std.specs.Prelude.{Result, Ok, Err}
use mathlib.Core.Path.{◌≡◌, refl, sym, ◌∙◌}
use mathlib.Core.List.{List}
use Prim.Native.Nat.{ℕ, ◌≤◌}
use native.Mathlib.Omega.{arith}
use lib.IntN.{ℤ, pos}
use Rattle.method.specs.declared.TableRefusal.{TableRefusal}
use Rattle.method.specs.declared.TableReason.{TableReason}
use Rattle.method.specs.told.Refusals.{table_number, table_said}
use Rattle.method.specs.computed.Table.{opening}
use Rattle.corridor.specs.declared.Session.{Session}
use Rattle.corridor.specs.View.{left_by_open, Valid}
use Rattle.corridor.specs.Handed.{opened_by}
use Rattle.corridor.proofs.Theorems.{valid_open, refused_opens_none, opened-left}
use Rattle.host_memory.specs.Memory.{Memory, session_in}
use Rattle.host.specs.Checked.{TellsAfterOpen}

at_least_one : (why : TableReason) → 1 ≤ table_number why
unfolding table_number
at_least_one TableReason.Length = omega arith
at_least_one TableReason.Edition = omega arith
at_least_one TableReason.Header = omega arith
at_least_one TableReason.Key = omega arith
at_least_one (TableReason.Field f) = omega arith
at_least_one TableReason.Id = omega arith
at_least_one TableReason.Exponent = omega arith
at_least_one TableReason.HalfMove = omega arith
at_least_one TableReason.Corridor = omega arith

not-zero : (why : TableReason) → pos (table_number why) ≡ pos 0 → ⊥
not-zero why e = let z : table_number why ≡ 0 = cc in omega (arith, at_least_one why)

module _ (table : List ℕ) (number : ℤ) (memory : Memory) (left : session_in memory ≡ left_by_open (opening table)) where
  sound_or_none : (o : Result Session TableRefusal) → opened_by table ≡ o → number ≡ pos (table_said o).number
      → (number ≡ pos 0 → Valid (session_in memory)) × ((number ≡ pos 0 → ⊥) → Valid (session_in memory) → ⊥)
  unfolding table_said
  sound_or_none (Ok s) e n = (λ _. rw (left, opened-left table (sym e)) (valid_open table s e), λ no. absurd (no n))
  sound_or_none (Err r) e n =
      (λ z. absurd (not-zero r.reason (sym n ∙ z)), λ _ v. refused_opens_none table r e (rw left at v))

pub tells_after_open : TellsAfterOpen
tells_after_open table number memory n left sound broken told =
    let found = sound_or_none table number memory left (opened_by table) refl n in
    (λ z. told.0 (found.0 z), λ no. told.1 (found.1 no))
