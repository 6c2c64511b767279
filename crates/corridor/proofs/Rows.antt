-- A loop that changes each row, and a row that is read by its place. Assumes nothing.
use mathlib.Core.Path.{◌≡◌, refl, ap, subst}
use mathlib.Core.List.{List, [], ◌∷◌, ◌++◌, map}
use Prim.Native.Nat.{ℕ, zero, suc, ◌<◌, ◌≤◌}
use native.Mathlib.Omega.{arith}
use lib.ListN.{length, get_or, set, take, drop}
use lib.Seq.{length-take-le, get_or-take}
use Rattle.method.specs.words.Types.{blank}
use Rattle.method.specs.computed.Head.{most_left}
use Rattle.method.specs.computed.Rooms.{Room}
use Rattle.method.proofs.Every.{every_at}
use Rattle.corridor.specs.declared.Session.{Session}
use Rattle.corridor.specs.View.{view, Ranged}

-- the first k elements changed
unfoldable pub changed : {A : Type 0} → (A → A) → ℕ → List A → List A
changed f zero xs = xs
changed f (suc k) [] = []
changed f (suc k) (x ∷ xs) = f x ∷ changed f k xs

module _ {A : Type 0} (f : A → A) where
  -- the next one stands as it was
  pub changed_at : (k : ℕ) (xs : List A) (d : A) → get_or (changed f k xs) k d ≡ get_or xs k d
  unfolding changed
  changed_at zero xs d = refl
  changed_at (suc k) [] d = refl
  changed_at (suc k) (x ∷ xs) d = changed_at k xs d

  pub changed_next : (k : ℕ) (xs : List A) (d : A) → k < length xs → set (changed f k xs) k (f (get_or xs k d)) ≡ changed f (suc k) xs
  unfolding changed
  changed_next zero [] d h = absurd (omega arith)
  changed_next zero (x ∷ xs) d h = refl
  changed_next (suc k) [] d h = refl
  changed_next (suc k) (x ∷ xs) d h = ap (λ (l : List A). f x ∷ l) (changed_next k xs d (omega arith))

  pub changed-length : (k : ℕ) (xs : List A) → length (changed f k xs) ≡ length xs
  unfolding changed
  changed-length zero xs = refl
  changed-length (suc k) [] = refl
  changed-length (suc k) (x ∷ xs) = ap suc (changed-length k xs)

  -- the method's map, written over the first places
  pub changed_view : (n : ℕ) (xs : List A) → changed f n xs ≡ map f (take n xs) ++ drop n xs
  unfolding changed
  changed_view zero xs = refl
  changed_view (suc n) [] = refl
  changed_view (suc n) (x ∷ xs) = ap (λ (l : List A). f x ∷ l) (changed_view n xs)

  -- at the end
  pub changed_all : (k : ℕ) (xs : List A) → length xs ≤ k → changed f k xs ≡ map f xs
  unfolding changed
  changed_all zero [] h = refl
  changed_all zero (x ∷ xs) h = absurd (omega arith)
  changed_all (suc k) [] h = refl
  changed_all (suc k) (x ∷ xs) h = ap (λ (l : List A). f x ∷ l) (changed_all k xs (omega arith))

-- ---- a row of a session
pub room_in : {s : Session} (i : ℕ) → Ranged s → i < s.count → Room (most_left (view s)) (get_or (view s).lines i blank)
room_in {s} i v h =
    every_at (Room (most_left (view s))) (take s.count s.lines) blank i v.sane.rooms
    (omega (arith, length-take-le s.count s.lines (omega (arith, v.full, v.few))))

pub room_at : {s : Session} (i : ℕ) → Ranged s → i < s.count → Room (most_left (view s)) (get_or s.lines i blank)
room_at {s} i v h = subst (Room (most_left (view s))) (get_or-take s.count s.lines i blank h) (room_in i v h)
