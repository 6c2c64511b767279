-- A slice that is filled from an input: part after part, and what stands in it where the input's bytes are known. Assumes nothing.
use Rattle.std.proofs.Common.{◌≡◌, ℕ, ◌+◌, ◌<◌, ◌≤◌, ◌⊎◌, inl, inr, List, ◌++◌, length, take, Option, Some, None, sym, ap, ◌∙◌, arith, append-nil}
use Rattle.std.proofs.Math.Seq.{take-append-add, length-take-le, take-append-le, take-append_seam, take_all}
use Rattle.std.proofs.Math.Nat.{eq-or-lt_of_le}
use borrow.Rule.Slice.PartMut.{put_mid, post_of}
use Rattle.filling.specs.Filled.{FilledFrom}

-- a part that was read into, after what was taken so far
pub taken_on : (a k n : ℕ) (xs ys : List ℕ) → a ≤ length xs → n ≤ length ys → take (a + n) (put_mid a k xs ys) ≡ take a xs ++ take n ys
taken_on a k n xs ys h g =
    ap (λ (m : ℕ). take (m + n) (put_mid a k xs ys)) (sym (length-take-le a xs h)) ∙ take-append-add (take a xs) (ys ++ post_of a k xs) n
    ∙ ap (λ (zs : List ℕ). take a xs ++ zs) (take-append-le n ys (post_of a k xs) g)

-- ---- of an input whose bytes are known
-- a slice that is not full has them all
pub filled-short : (xs : List ℕ) (after : Option (List ℕ)) (n : ℕ) (room : List ℕ) → FilledFrom (Some xs) after n room → n < length room → xs ≡ take n room
filled-short xs None n room f l = absurd f.taken
filled-short xs (Some ys) n room f l = f.taken ∙ ap (λ (zs : List ℕ). take n room ++ zs) (f.ended l) ∙ append-nil (take n room)

-- and any slice has as many as it has room for
pub filled-upto : (xs : List ℕ) (after : Option (List ℕ)) (n : ℕ) (room : List ℕ) → n ≤ length room → FilledFrom (Some xs) after n room → take n room ≡ take (length room) xs
filled-upto xs None n room h f = absurd f.taken
filled-upto xs (Some ys) n room h f = go (eq-or-lt_of_le h)
  where
    go : (n ≡ length room) ⊎ (n < length room) → take n room ≡ take (length room) xs
    go (inl e) =
        let full : take n room ≡ room = take_all n room (omega arith) in
        full ∙ sym (ap (take (length room)) (f.taken ∙ ap (λ (zs : List ℕ). zs ++ ys) full) ∙ take-append_seam room ys)
    go (inr l) =
        let all : xs ≡ take n room = filled-short xs (Some ys) n room f l in
        sym (take_all (length room) xs (omega (arith, ap length all, length-take-le n room h)) ∙ all)
