-- The search for an id, and a guess at its place. Assumes nothing.
use Rattle.std.specs.Prelude.{Some, None, Ok, Err}
use Rattle.std.specs.List.{position_or_len}
use Rattle.std.proofs.lemmas.List.Recursion.{is_position_or_len}
use mathlib.Core.Path.{◌≡◌, refl, sym, ap, ◌∙◌}
use mathlib.Core.Bool.{Bool, true, false, cond, ◌||◌}
use mathlib.Core.List.{List, [], ◌∷◌}
use Prim.Native.Nat.{ℕ, zero, suc, ◌+◌, ◌<◌, ◌≤◌}
use native.Mathlib.Omega.{arith}
use borrow.Author.Tests.{eq-eqb, ne_eqb, ltb-true, ltb-false, lt-ltb, le-ltb}
use lib.Dec.{eqb, ltb}
use lib.ListN.{length, get_or}
use Rattle.method.specs.told.Questions.{listed}
use Rattle.method.specs.computed.Sound.{Distinct}
use Rattle.method.proofs.Every.{every_at}
use Rattle.verdict.specs.Names.{Tick, Quoted, ReadEvent}
use Rattle.verdict.specs.Decided.{slot_of, place_of, found}

ltb-suc : (m n : ℕ) → ltb (suc m) (suc n) ≡ ltb m n
ltb-suc m n = go (ltb m n) refl
  where
    go : (b : Bool) → ltb m n ≡ b → ltb (suc m) (suc n) ≡ b
    go true e = let h = ltb-true m n e in lt-ltb (suc m) (suc n) (omega arith)
    go false e = let h = ltb-false m n e in le-ltb (suc m) (suc n) (omega arith)

place-position : (id : ℕ) (ids : List ℕ) → place_of id ids ≡ position_or_len (λ j. eqb j id) ids
unfolding place_of
place-position id = is_position_or_len (place_of id) (λ j. eqb j id) refl more
  where
    more : (j : ℕ) (ids : List ℕ) → place_of id (j ∷ ids) ≡ cond (eqb j id) 0 (1 + place_of id ids)
    more j ids = let e : suc (place_of id ids) ≡ 1 + place_of id ids = omega arith in ap (λ (n : ℕ). cond (eqb j id) 0 n) e

pub place-most : (id : ℕ) (ids : List ℕ) → place_of id ids ≤ length ids
unfolding place_of
place-most id [] = omega arith
place-most id (j ∷ ids) = go (eqb j id) (place-most id ids)
  where
    go : (b : Bool) → place_of id ids ≤ length ids → cond b 0 (suc (place_of id ids)) ≤ suc (length ids)
    go true h = omega arith
    go false h = omega arith

-- an id is listed where its place is one of the list's
listed-placed : (id : ℕ) (ids : List ℕ) → listed id ids ≡ ltb (place_of id ids) (length ids)
unfolding listed place_of
listed-placed id [] = refl
listed-placed id (j ∷ ids) = go (eqb j id) (listed-placed id ids)
  where
    go : (b : Bool) → listed id ids ≡ ltb (place_of id ids) (length ids) → (b || listed id ids) ≡ ltb (cond b 0 (suc (place_of id ids))) (suc (length ids))
    go true h = sym (lt-ltb 0 (suc (length ids)) (omega arith))
    go false h = h ∙ sym (ltb-suc (place_of id ids) (length ids))

-- the search, as std's words tell it
pub found-position : (id : ℕ) (ids : List ℕ) → cond (ltb (position_or_len (λ j. eqb j id) ids) (length ids)) (Some (position_or_len (λ j. eqb j id) ids)) None ≡ found id ids
found-position id ids = rw (sym (place-position id ids), sym (listed-placed id ids))

-- what it tells of an id
pub found_none : (id : ℕ) (ids : List ℕ) → found id ids ≡ None → listed id ids ≡ false
found_none id ids = go (listed id ids)
  where
    go : (b : Bool) → cond b (Some (place_of id ids)) None ≡ None → b ≡ false
    go true e = cc
    go false e = refl

pub found_some : (id : ℕ) (ids : List ℕ) (p : ℕ) → found id ids ≡ Some p → (listed id ids ≡ true) × (p ≡ place_of id ids)
found_some id ids p = go (listed id ids)
  where
    go : (b : Bool) → cond b (Some (place_of id ids)) None ≡ Some p → (b ≡ true) × (p ≡ place_of id ids)
    go true e = (refl, cc)
    go false e = cc

-- ---- a guess
-- where no id stands twice, the place that has it is the first
guessed : (id : ℕ) (ids : List ℕ) (p : ℕ) → Distinct ids → p < length ids → get_or ids p 0 ≡ id → p ≡ place_of id ids
unfolding Distinct place_of
guessed id [] p d h e = absurd (omega arith)
guessed id (j ∷ ids) zero d h e = rw (eq-eqb j id e)
guessed id (j ∷ ids) (suc p) d h e =
    rw (ne_eqb j id (λ s. every_at (λ k. k ≡ j → ⊥) ids 0 p d.0 (omega arith) (e ∙ sym s))) (ap suc (guessed id ids p d.1 (omega arith) e))

pub guess_found : (id : ℕ) (ids : List ℕ) (p : ℕ) → Distinct ids → p < length ids → get_or ids p 0 ≡ id → Some p ≡ found id ids
guess_found id ids p d h e =
    let at : p ≡ place_of id ids = guessed id ids p d h e in
    rw (listed-placed id ids, sym at, lt-ltb p (length ids) h)

-- a slot is one of 256
pub slot_below : (e : ReadEvent) → slot_of e < 256
slot_below (Err why) = omega arith
slot_below (Ok (Tick t)) = omega arith
slot_below (Ok (Quoted q)) = omega arith
