-- The search over the keys: they rise, and the number of those that are passed says which rate is sought. Assumes nothing.
use mathlib.Core.Path.{◌≡◌, refl, sym, ◌∙◌}
use mathlib.Core.List.{List, [], ◌∷◌}
use Prim.Native.Nat.{ℕ, zero, suc, ◌-◌, ◌≤◌, ◌<◌}
use native.Mathlib.Nat.{le_refl}
use native.Mathlib.Omega.{arith}
use borrow.Author.Tests.{le-leb, lt-leb}
use lib.Dec.{ltb}
use lib.IntN.{pos}
use lib.ListN.{length, get_or}
use Rattle.std.specs.List.Sorted.{IsPartitionedBy, IsPartitionPoint}
use Rattle.std.proofs.lemmas.List.Sorted.{IsPartitionedBy-ltb}
use Rattle.method.specs.words.Ranges.{KeyIn, KeysIn}
use Rattle.method.specs.words.Growth.{between_keys, rate_from, rate_by_keys, rate_at}
use Rattle.growth.specs.Names.{Key}
use Rattle.growth.specs.Asks.{Neighbours, Searched}

-- an empty list has no place
no_place : {n : ℕ} → n < 0 → ⊥
no_place h = omega arith

-- ---- the keys rise, so those with fewer days stand before the others
key_in : (before : ℕ) (keys : List Key) (i : ℕ) (d : Key) → KeysIn before keys → i < length keys → KeyIn before (get_or keys i d)
unfolding KeysIn
key_in before [] i d r h = absurd (no_place h)
key_in before (k ∷ keys) zero d r h = r.0
key_in before (k ∷ keys) (suc i) d r h =
    let later = key_in k.days keys i d r.1 (omega arith) in
    record { days = later.days; rising = omega (arith, r.0.rising, later.rising); rate = later.rate }

rising : (before : ℕ) (keys : List Key) (i j : ℕ) (d : Key) → KeysIn before keys → i ≤ j → j < length keys → (get_or keys i d).days ≤ (get_or keys j d).days
unfolding KeysIn
rising before [] i j d r h g = absurd (no_place g)
rising before (k ∷ keys) zero zero d r h g = le_refl k.days
rising before (k ∷ keys) zero (suc j) d r h g = omega (arith, (key_in k.days keys j d r.1 (omega arith)).rising)
rising before (k ∷ keys) (suc i) zero d r h g = absurd (omega arith)
rising before (k ∷ keys) (suc i) (suc j) d r h g = rising k.days keys i j d r.1 (omega arith) (omega arith)

pub parted : (keys : List Key) (days : ℕ) → KeysIn 0 keys → IsPartitionedBy (λ (k : Key). ltb k.days days) keys
parted keys days r = IsPartitionedBy-ltb (λ (k : Key). k.days) keys days (λ i j d h g. rising 0 keys i j d r h g)

-- ---- the rate after the keys that are passed: that of the first key, of the last, or between two
module _ (days : ℕ) (d : Key) where
  abbrev Passed : List Key → ℕ → Type 0
  Passed keys n = (j : ℕ) → j < n → (get_or keys j d).days < days

  from_last : (l : Key) (keys : List Key) → Passed keys (length keys) → rate_from l keys days ≡ pos (get_or (l ∷ keys) (length keys) d).rate.0
  unfolding rate_from
  from_last l [] p = refl
  from_last l (k ∷ keys) p = rw (lt-leb days k.days (p 0 (omega arith))) (from_last k keys (λ j h. p (suc j) (omega arith)))

  from-between : (l : Key) (keys : List Key) (n : ℕ) → Passed keys n → n < length keys → days ≤ (get_or keys n d).days
      → rate_from l keys days ≡ between_keys (get_or (l ∷ keys) n d) (get_or keys n d) days
  unfolding rate_from
  from-between l [] n p h g = absurd (no_place h)
  from-between l (k ∷ keys) zero p h g = rw (le-leb days k.days g)
  from-between l (k ∷ keys) (suc n) p h g =
      rw (lt-leb days k.days (p 0 (omega arith))) (from-between k keys n (λ j q. p (suc j) (omega arith)) (omega arith) g)

  first-rate : (keys : List Key) → 0 < length keys → days ≤ (get_or keys 0 d).days → rate_by_keys keys days ≡ pos (get_or keys 0 d).rate.0
  unfolding rate_by_keys
  first-rate [] h g = absurd (no_place h)
  first-rate (k ∷ keys) h g = rw (le-leb days k.days g)

  last-rate : (keys : List Key) (n : ℕ) → suc n ≡ length keys → Passed keys (suc n) → rate_by_keys keys days ≡ pos (get_or keys n d).rate.0
  unfolding rate_by_keys
  last-rate [] n e p = absurd (no_place {n = n} (omega (arith, e)))
  last-rate (k ∷ keys) n e p =
      let last : n ≡ length keys = omega arith in
      rw (lt-leb days k.days (p 0 (omega arith)), last) (from_last k keys (λ j h. p (suc j) (omega arith)))

  between-rate : (keys : List Key) (n : ℕ) → Passed keys (suc n) → suc n < length keys → days ≤ (get_or keys (suc n) d).days
      → rate_by_keys keys days ≡ between_keys (get_or keys n d) (get_or keys (suc n) d) days
  unfolding rate_by_keys
  between-rate [] n p h g = absurd (no_place h)
  between-rate (k ∷ keys) n p h g = rw (lt-leb days k.days (p 0 (omega arith))) (from-between k keys n (λ j q. p (suc j) (omega arith)) (omega arith) g)

-- ---- the same from where the search ended
rate_of : (keys : List Key) (days rate : ℕ) → rate_by_keys keys days ≡ pos rate → rate ≡ rate_at keys days
unfolding rate_at
rate_of keys days rate e = rw e

module _ {keys : List Key} {days line : ℕ} (d : Key) (s : Searched keys days) (p : IsPartitionPoint (λ (k : Key). k.days < days) (λ (k : Key). days ≤ k.days) keys line) where
  pub at_first : line ≡ 0 → (get_or keys 0 d).rate.0 ≡ rate_at keys days
  at_first z = rate_of keys days _ (first-rate days d keys s.some (p.1 0 d (omega (arith, z)) s.some))

  module _ (past : 0 < line) where
    before : suc (line - 1) ≡ line
    before = omega arith

    passed : (j : ℕ) → j < suc (line - 1) → (get_or keys j d).days < days
    passed j h = p.0 j d (omega arith) (omega arith)

    pub at_last : line ≡ length keys → (get_or keys (line - 1) d).rate.0 ≡ rate_at keys days
    at_last z = rate_of keys days _ (last-rate days d keys (line - 1) (before ∙ z) passed)

    module _ (short : line < length keys) where
      pub neighbours : Neighbours (get_or keys (line - 1) d) (get_or keys line d) days
      neighbours =
          let l = key_in 0 keys (line - 1) d s.good (omega arith) in
          let r = key_in 0 keys line d s.good short in
          record {
            low_rate = l.rate;
            high_rate = r.rate;
            from = p.0 (line - 1) d (omega arith) (omega arith);
            to = p.1 line d (omega arith) short;
            days_small = s.days_small;
            last_small = r.days.most;
          }

      pub at-between : (rate : ℕ) → pos rate ≡ between_keys (get_or keys (line - 1) d) (get_or keys line d) days → rate ≡ rate_at keys days
      at-between rate e =
          rate_of keys days rate
          ((rw before at (between-rate days d keys (line - 1) passed (omega arith) (rw before (neighbours.to)))) ∙ sym e)
