-- The lines of a session that were read one after another, or written so, from the first pair of rows to the 32nd. Assumes nothing.
use mathlib.Core.Path.{◌≡◌, refl, sym, subst, ap, ◌∙◌}
use mathlib.Core.Bool.{Bool, true, false}
use mathlib.Core.List.{List, map}
use Prim.Native.Nat.{ℕ, zero, suc, ◌+◌, ◌≤◌, ◌<◌}
use native.Mathlib.Omega.{arith}
use denote.Param.Members.{Mut, Called}
use borrow.Author.Tests.{eqb-true, eqb-false}
use lib.Dec.{eqb}
use lib.ListN.{length, get_or, take}
use lib.Seq.{take_all}
use Rattle.std.specs.Array.{IsFromFnResult, IsFromFnResultFrom}
use Rattle.std.proofs.lemmas.List.{same_lists}
use Rattle.method.specs.words.Types.{blank}
use Rattle.host_row.specs.Packed.{line_in}
use Rattle.host_memory.specs.Names.{Line}
use Rattle.host_memory.specs.Memory.{Memory, session_in}
use Rattle.host_memory.proofs.Places.{full_in, within}

pub all_lines : (pairs : Memory) (ls : List Line) (i : ℕ) → i ≡ 32 → length ls ≡ 32 → take i ls ≡ map line_in (take i pairs) → ls ≡ (session_in pairs).lines
unfolding session_in
all_lines pairs ls i e n p = sym (take_all 32 ls (omega arith)) ∙ ap (λ (k : ℕ). take k ls) (sym e) ∙ p ∙ ap (λ (k : ℕ). map line_in (take k pairs)) e

by_place : {P : Type 0} (k i : ℕ) → (k ≡ i → P) → ((k ≡ i → ⊥) → P) → P
by_place {P} k i here elsewhere = either (eqb k i) refl
  where
    either : (t : Bool) → eqb k i ≡ t → P
    either true e = here (eqb-true k i e)
    either false e = elsewhere (eqb-false k i e)

-- ---- what a closure gave, that read one line at each place
module _ {F : Type 0} (pairs : Memory) (g : Mut F (ℕ × Unit {0}) Line) (f : F) where
  abbrev Reads : Type 0
  Reads = (i : ℕ) (l : Line) (q : F) → Called g f (i, tt) l q → (l ≡ get_or (session_in pairs).lines i blank) × (q ≡ f)

  read_from : Reads → (ls : List Line) (i n k : ℕ) (d : Line) → IsFromFnResultFrom g f ls i n → i ≤ k → k < i + n → get_or ls k d ≡ get_or (session_in pairs).lines k blank
  read_from r ls i zero k d all a b = absurd (omega arith)
  read_from r ls i (suc n) k d (q, l, at, called, others) a b =
      let here = r i l q called in
      by_place k i (λ s. rw s (at.1 d ∙ here.0))
      (λ z. read_from r ls (i + 1) n k d (subst (λ (p : F). IsFromFnResultFrom g p ls (i + 1) n) here.1 others) (omega arith) (omega arith))

  pub lines_read : Reads → (ls : List Line) → length pairs ≡ 33 → IsFromFnResult g f ls 32 → ls ≡ (session_in pairs).lines
  lines_read r ls long made =
      same_lists ls (session_in pairs).lines (made.long ∙ sym (full_in pairs long))
      (λ k d h.
      let inside : k < 32 = omega (arith, made.long) in
      read_from r ls 0 32 k d made.each (omega arith) inside ∙ within (session_in pairs).lines k blank d (omega (arith, full_in pairs long)))
