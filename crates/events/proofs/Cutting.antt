-- A buffer cut into events of 20 bytes. Assumes nothing.
use mathlib.Core.Path.{◌≡◌, refl, sym, ap, ◌∙◌}
use mathlib.Core.Bool.{Bool, true, false, cond}
use mathlib.Core.List.{List, ◌∷◌}
use mathlib.Core.Logic.{◌⊎◌, inl, inr}
use Prim.Native.Nat.{ℕ, suc, ◌+◌, ◌-◌, ◌/◌, ◌≤◌, ◌<◌}
use native.Mathlib.Nat.{eq-zero-or-pos}
use native.Mathlib.Omega.{arith}
use borrow.Author.Tests.{ltb-true, ltb-false}
use lib.Dec.{ltb}
use lib.ListN.{length, take, drop, length-drop, drop_of_length-le}
use lib.Seq.{take_all, drop-drop}
use Rattle.method.specs.told.Program.{pieces, events_of}
use Rattle.events.specs.Cutting.{cut_at, EventsAreCut}

more : (n : ℕ) → 0 < n → (n + 19) / 20 ≡ suc ((n - 20 + 19) / 20)
more n h = omega arith

pub first-event : (b : List ℕ) → 0 < length b → events_of b ≡ take 20 b ∷ events_of (drop 20 b)
unfolding pieces
first-event b h = rw (more (length b) h, length-drop 20 b)

either : (m n : ℕ) → (m ≤ n) ⊎ (n ≤ m)
either m n = go (eq-zero-or-pos (m - n))
  where
    go : (m - n ≡ 0) ⊎ (0 < m - n) → (m ≤ n) ⊎ (n ≤ m)
    go (inl e) = inl (omega arith)
    go (inr h) = inr (omega arith)

-- an event of the buffer from one place to the next: 20 bytes, or what is left
pub record Cut (from size to : ℕ) : Type 0 where
  pub on : from < to
  pub inside : to ≤ size
  pub whole : from + 20 ≤ size → to ≡ from + 20
  pub short : size ≤ from + 20 → to ≡ size

pub cut_is : (from size to : ℕ) → from < size → to ≡ cut_at from size → Cut from size to
cut_is from size to h e = go (ltb (size - from) 20) refl e
  where
    go : (b : Bool) → ltb (size - from) 20 ≡ b → to ≡ cond b size (from + 20) → Cut from size to
    go true t e =
        let few = ltb-true (size - from) 20 t in
        record { on = omega arith; inside = omega arith; whole = λ k. omega arith; short = λ k. omega arith }
    go false t e =
        let many = ltb-false (size - from) 20 t in
        record { on = omega arith; inside = omega arith; whole = λ k. omega arith; short = λ k. omega arith }

module _ {from to : ℕ} (b : List ℕ) (c : Cut from (length b) to) where
  long : length (drop from b) ≡ length b - from
  long = length-drop from b

  pub cut_piece : take (to - from) (drop from b) ≡ take 20 (drop from b)
  cut_piece = go (either (from + 20) (length b))
    where
      go : (from + 20 ≤ length b) ⊎ (length b ≤ from + 20) → take (to - from) (drop from b) ≡ take 20 (drop from b)
      go (inl h) =
          let e = c.whole h in
          let all : to - from ≡ 20 = omega arith in
          ap (λ (n : ℕ). take n (drop from b)) all
      go (inr h) =
          let e = c.short h in
          take_all (to - from) (drop from b) (omega (arith, long)) ∙ sym (take_all 20 (drop from b) (omega (arith, long)))

  pub cut_rest : drop to b ≡ drop 20 (drop from b)
  cut_rest = go (either (from + 20) (length b))
    where
      go : (from + 20 ≤ length b) ⊎ (length b ≤ from + 20) → drop to b ≡ drop 20 (drop from b)
      go (inl h) = ap (λ (n : ℕ). drop n b) (c.whole h) ∙ sym (drop-drop 20 from b)
      go (inr h) =
          let e = c.short h in
          drop_of_length-le b {i = to} (omega arith) ∙ sym (drop_of_length-le (drop from b) {i = 20} (omega (arith, long)))

  pub fewer : (length b - to + 19) / 20 + 1 ≡ (length b - from + 19) / 20
  fewer = go (either (from + 20) (length b))
    where
      go : (from + 20 ≤ length b) ⊎ (length b ≤ from + 20) → (length b - to + 19) / 20 + 1 ≡ (length b - from + 19) / 20
      go (inl h) = let e = c.whole h in let k = c.on in omega arith
      go (inr h) = let e = c.short h in let k = c.on in omega arith

pub events_are_cut : EventsAreCut
events_are_cut b from h =
    let c = cut_is from (length b) (cut_at from (length b)) h refl in
    rw (cut_piece b c, cut_rest b c) (first-event (drop from b) (omega (arith, h, long b c)))
