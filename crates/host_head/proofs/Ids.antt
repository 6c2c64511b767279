-- Ids one after another: what it tells of `Distinct` that an id stands again after its place, or does not. Assumes nothing.
use mathlib.Core.Path.{◌≡◌, refl, sym, ap, ◌∙◌}
use mathlib.Core.Bool.{Bool, true, false, ◌||◌}
use mathlib.Core.List.{List, [], ◌∷◌}
use Prim.Native.Nat.{ℕ, zero, suc, ◌+◌, ◌-◌, ◌<◌}
use native.Mathlib.Numerals.{add-one}
use borrow.Author.Tests.{eqb-true, eqb-false}
use lib.Dec.{eqb}
use lib.ListN.{length, get_or, take, drop}
use lib.Seq.{drop-cons, drop-length}
use Rattle.std.specs.List.{list_any}
use Rattle.std.proofs.lemmas.List.{take_rest}
use Rattle.method.specs.words.Ranges.{Every}
use Rattle.method.specs.computed.Sound.{Distinct}

-- ---- one id
abbrev among : ℕ → List ℕ → Bool
among id ids = list_any (λ j. eqb j id) ids

not_among : (id : ℕ) (ids : List ℕ) → among id ids ≡ false → Every (λ j. j ≡ id → ⊥) ids
unfolding Every
not_among id [] e = tt
not_among id (j ∷ ids) e = either (eqb j id) refl (not_among id ids) e
  where
    either : (b : Bool) → eqb j id ≡ b → (among id ids ≡ false → Every (λ k. k ≡ id → ⊥) ids) → (b || among id ids) ≡ false
        → (j ≡ id → ⊥) × Every (λ k. k ≡ id → ⊥) ids
    either true q others e = absurd (cc)
    either false q others e = (eqb-false j id q, others e)

among-not : (id : ℕ) (ids : List ℕ) → among id ids ≡ true → Every (λ j. j ≡ id → ⊥) ids → ⊥
unfolding Every
among-not id [] e p = cc
among-not id (j ∷ ids) e p = either (eqb j id) refl (among-not id ids) e
  where
    either : (b : Bool) → eqb j id ≡ b → (among id ids ≡ true → Every (λ k. k ≡ id → ⊥) ids → ⊥) → (b || among id ids) ≡ true → ⊥
    either true q others e = p.0 (eqb-true j id q)
    either false q others e = others e p.1

-- ---- all ids
distinct_drop : (i : ℕ) (ids : List ℕ) → Distinct ids → Distinct (drop i ids)
unfolding Distinct
distinct_drop zero ids d = d
distinct_drop (suc i) [] d = d
distinct_drop (suc i) (j ∷ ids) d = distinct_drop i ids d.1

module _ (ids : List ℕ) (i : ℕ) (h : i < length ids) where
  -- the ids after the place, as the loop has them
  abbrev later : List ℕ
  later = take (length ids - (i + 1)) (drop (i + 1) ids)

  later_is : later ≡ drop (i + 1) ids
  later_is = take_rest ids (i + 1)

  pub again : true ≡ list_any (λ j. eqb j (get_or ids i 0)) later → Distinct ids → ⊥
  unfolding Distinct
  again e d =
      let rest = rw (drop-cons ids i 0 h) at (distinct_drop i ids d) in
      among-not (get_or ids i 0) (drop (i + 1) ids) (sym (e ∙ ap (among (get_or ids i 0)) later_is)) (rw add-one rest.0)

  pub once : false ≡ list_any (λ j. eqb j (get_or ids i 0)) later → Distinct (drop (i + 1) ids) → Distinct (drop i ids)
  unfolding Distinct
  once e d =
      let none : Every (λ j. j ≡ get_or ids i 0 → ⊥) (drop (i + 1) ids) = not_among (get_or ids i 0) (drop (i + 1) ids) (sym (e ∙ ap (among (get_or ids i 0)) later_is)) in
      rw (drop-cons ids i 0 h) (rw add-one at none, rw add-one at d)

pub distinct_end : (ids : List ℕ) (i : ℕ) → i ≡ length ids → Distinct (drop i ids)
unfolding Distinct
distinct_end ids i e = rw (ap (λ (k : ℕ). drop k ids) e ∙ drop-length ids) tt
