-- Records out of a part of some bytes: what stands in a part stands in the whole. And the loop that reads the keys: what holds at its head.
-- Assumes nothing.
use mathlib.Core.Path.{◌≡◌, refl, sym, ap, ◌∙◌}
use mathlib.Core.List.{List, [], ◌∷◌, ◌++◌, append_assoc, append-nil}
use Prim.Native.Nat.{ℕ, zero, suc, ◌+◌, ◌-◌, ◌*◌, ◌≤◌, ◌<◌}
use native.Mathlib.Omega.{arith}
use lib.ListN.{length, get_or, get_or-append, take, drop, length-append, length-drop}
use lib.Seq.{get_or-append-add, length-take-le}
use Rattle.std.proofs.lemmas.List.{take-append-drop}
use Rattle.method.specs.words.Wire.{word}
use Rattle.method.specs.words.Layout.{key_at, keys_at, contract_at, contracts_at}
use Rattle.table_records.specs.Names.{Key}

-- ---- what stands before the end of xs, or after it
module _ (xs ys : List ℕ) where
  word-before : (at : ℕ) → at + 4 ≤ length xs → word (xs ++ ys) at ≡ word xs at
  unfolding word
  word-before at h =
      rw (
        get_or-append xs ys 0 at (omega arith),
        get_or-append xs ys 0 (at + 1) (omega arith),
        get_or-append xs ys 0 (at + 2) (omega arith),
        get_or-append xs ys 0 (at + 3) (omega arith),
      )

  byte-after : (j at : ℕ) → j ≡ length xs + at → get_or (xs ++ ys) j 0 ≡ get_or ys at 0
  byte-after j at e = rw (e, get_or-append-add xs ys at 0)

  word-after : (j at : ℕ) → j ≡ length xs + at → word (xs ++ ys) j ≡ word ys at
  unfolding word
  word-after j at e =
      rw (
        byte-after j at e,
        byte-after (j + 1) (at + 1) (omega arith),
        byte-after (j + 2) (at + 2) (omega arith),
        byte-after (j + 3) (at + 3) (omega arith),
      )

  pub key-before : (at : ℕ) → at + 8 ≤ length xs → key_at (xs ++ ys) at ≡ key_at xs at
  unfolding key_at
  key-before at h = rw (word-before at (omega arith), word-before (at + 4) (omega arith))

  keys-before : (at n : ℕ) → at + 8 * n ≤ length xs → keys_at (xs ++ ys) at n ≡ keys_at xs at n
  unfolding keys_at
  keys-before at zero h = refl
  keys-before at (suc n) h = rw (key-before at (omega arith), keys-before (at + 8) n (omega arith))

  key-after : (j at : ℕ) → j ≡ length xs + at → key_at (xs ++ ys) j ≡ key_at ys at
  unfolding key_at
  key-after j at e = rw (word-after j at e, word-after (j + 4) (at + 4) (omega arith))

  pub keys-after : (j at n : ℕ) → j ≡ length xs + at → keys_at (xs ++ ys) j n ≡ keys_at ys at n
  unfolding keys_at
  keys-after j at zero e = refl
  keys-after j at (suc n) e = rw (key-after j at e, keys-after (j + 8) (at + 8) n (omega arith))

  pub contract-before : (at : ℕ) → at + 40 ≤ length xs → contract_at (xs ++ ys) at ≡ contract_at xs at
  unfolding contract_at
  contract-before at h =
      rw (
        word-before at (omega arith),
        word-before (at + 4) (omega arith),
        word-before (at + 8) (omega arith),
        word-before (at + 12) (omega arith),
        word-before (at + 16) (omega arith),
        word-before (at + 20) (omega arith),
        word-before (at + 24) (omega arith),
        word-before (at + 28) (omega arith),
        word-before (at + 32) (omega arith),
        word-before (at + 36) (omega arith),
      )

  contract-after : (j at : ℕ) → j ≡ length xs + at → contract_at (xs ++ ys) j ≡ contract_at ys at
  unfolding contract_at
  contract-after j at e =
      rw (
        word-after j at e,
        word-after (j + 4) (at + 4) (omega arith),
        word-after (j + 8) (at + 8) (omega arith),
        word-after (j + 12) (at + 12) (omega arith),
        word-after (j + 16) (at + 16) (omega arith),
        word-after (j + 20) (at + 20) (omega arith),
        word-after (j + 24) (at + 24) (omega arith),
        word-after (j + 28) (at + 28) (omega arith),
        word-after (j + 32) (at + 32) (omega arith),
        word-after (j + 36) (at + 36) (omega arith),
      )

  pub contracts-before : (at n : ℕ) → at + 40 * n ≤ length xs → contracts_at (xs ++ ys) at n ≡ contracts_at xs at n
  unfolding contracts_at
  contracts-before at zero h = refl
  contracts-before at (suc n) h = rw (contract-before at (omega arith), contracts-before (at + 40) n (omega arith))

  pub contracts-after : (j at n : ℕ) → j ≡ length xs + at → contracts_at (xs ++ ys) j n ≡ contracts_at ys at n
  unfolding contracts_at
  contracts-after j at zero e = refl
  contracts-after j at (suc n) e = rw (contract-after j at e, contracts-after (j + 40) (at + 40) n (omega arith))

pub keys_length : (b : List ℕ) (at n : ℕ) → length (keys_at b at n) ≡ n
unfolding keys_at
keys_length b at zero = refl
keys_length b at (suc n) = ap suc (keys_length b (at + 8) n)

-- ---- the keys so far, and those in the bytes that are left
pub record Taken (b : List ℕ) (n : ℕ) (keys : List Key) (rest : List ℕ) : Type 0 where
  pub more : ℕ
  pub count : length keys + more ≡ n
  pub size : length rest ≡ 8 * more
  pub all : keys ++ keys_at rest 0 more ≡ keys_at b 40 n

pub taken_start : (b : List ℕ) (n : ℕ) (part : List ℕ) → 40 + 8 * n ≤ length b → part ≡ take (8 * n) (drop 40 b) → Taken b n [] part
taken_start b n part h e =
    record {
      more = n;
      count = omega arith;
      size = long;
      all = rw e (sym inner ∙ sym (keys-after (take 40 b) (drop 40 b) 40 0 n front) ∙ ap (λ (x : List ℕ). keys_at x 40 n) (take-append-drop 40 b));
    }
  where
    front : 40 ≡ length (take 40 b) + 0
    front = rw (length-take-le 40 b (omega arith))

    long : length part ≡ 8 * n
    long = rw e (length-take-le (8 * n) (drop 40 b) (rw (length-drop 40 b) (omega arith)))

    inner : keys_at (drop 40 b) 0 n ≡ keys_at (take (8 * n) (drop 40 b)) 0 n
    inner =
        ap (λ (x : List ℕ). keys_at x 0 n) (sym (take-append-drop (8 * n) (drop 40 b)))
        ∙ keys-before (take (8 * n) (drop 40 b)) (drop (8 * n) (drop 40 b)) 0 n (rw (← e) (omega (arith, long)))

-- one record read, and the bytes later than it
module _ (b : List ℕ) (n : ℕ) (keys : List Key) (rest : List ℕ) (t : Taken b n keys rest) (first later : List ℕ) (e : rest ≡ first ++ later)
    (size : length first ≡ 8) where
  one-less : t.more ≡ suc (t.more - 1)
  one-less = omega (arith, t.size, ap length e, length-append first later)

  pub taken_turn : (k : Key) → k ≡ key_at first 0 → Taken b n (keys ++ (k ∷ [])) later
  unfolding keys_at
  taken_turn k q =
      record {
        more = t.more - 1;
        count = rw (length-append keys (k ∷ [])) (omega (arith, t.count, one-less));
        size = omega (arith, t.size, ap length e, length-append first later);
        all = append_assoc keys (k ∷ []) (keys_at later 0 (t.more - 1)) ∙ ap (λ (ks : List Key). keys ++ ks) (sym next) ∙ t.all;
      }
    where
      next : keys_at rest 0 t.more ≡ k ∷ keys_at later 0 (t.more - 1)
      next =
          ap (λ (m : ℕ). keys_at rest 0 m) one-less
          ∙ ap (λ (x : List ℕ). keys_at x 0 (suc (t.more - 1))) e
          ∙ ap (λ (h : Key). h ∷ keys_at (first ++ later) 8 (t.more - 1)) (key-before first later 0 (omega arith) ∙ sym q)
          ∙ ap (λ (ks : List Key). k ∷ ks) (keys-after first later 8 0 (t.more - 1) (omega arith))

pub taken_all : (b : List ℕ) (n : ℕ) (keys : List Key) (rest : List ℕ) → Taken b n keys rest → length rest < 8 → keys ≡ keys_at b 40 n
unfolding keys_at
taken_all b n keys rest t h = sym (append-nil keys) ∙ ap (λ (m : ℕ). keys ++ keys_at rest 0 m) (sym none) ∙ t.all
  where
    none : t.more ≡ 0
    none = omega (arith, t.size)
