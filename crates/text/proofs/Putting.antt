-- Texts put into a buffer one after another. Assumes nothing.
use mathlib.Core.Path.{◌≡◌, refl, sym, ap, ◌∙◌}
use mathlib.Core.List.{List, [], ◌∷◌, ◌++◌}
use Prim.Native.Nat.{ℕ, suc, ◌+◌, ◌^◌, ◌<◌, ◌≤◌}
use native.Mathlib.Omega.{arith}
use native.Mathlib.Numerals.{add-one}
use lib.ListN.{length, set, drop, take, length-append}
use lib.Seq.{set_split, append_snoc}
use lib.IntN.{ℤ}
use lib.Signed.{mag}
use mir.Syntax.{w64}
use mir.Val.{to_z, of_z}
use mir.Facts.{to_z-of_z}
use Rattle.method.specs.told.Text.{signed_text}
use Rattle.rows.proofs.Buffer.{nothing_written, written_on}
use Rattle.text.specs.Line.{Put}

pub put-none : (b : List ℕ) (at : ℕ) → Put b at [] b at
put-none b at = record { buffer = nothing_written b at; place = omega arith }

pub put_byte : (b : List ℕ) (at x : ℕ) → at < length b → Put b at (x ∷ []) (set b at x) (at + 1)
put_byte b at x h =
    record {
      buffer =
          set_split b at x h ∙ sym (append_snoc (take at b) x (drop (suc at) b)) ∙ ap (λ (n : ℕ). take at b ++ (x ∷ []) ++ drop n b) (sym (add-one at));
      place = refl;
    }

module _ {b c xs : List ℕ} {at m : ℕ} (p : Put b at xs c m) where
  -- the next text right after it
  pub put_on : {d ys : List ℕ} {e : ℕ} → m ≤ length b → Put c m ys d e → Put b at (xs ++ ys) d e
  put_on {ys = ys} h q =
      record {
        buffer = q.buffer ∙ rw (p.buffer, p.place) (written_on b at xs (omega (arith, p.place)) ys);
        place = omega (arith, p.place, q.place, length-append xs ys);
      }

pub put_as : {b c xs ys : List ℕ} {at e : ℕ} → xs ≡ ys → Put b at xs c e → Put b at ys c e
put_as q p = rw q at p

-- a number: a call hands it on as bits, and where it fits they are read as the number again
pub read_back : (z : ℤ) → mag z < 2 ^ 63 → to_z w64 (of_z w64 z) ≡ z
read_back z h = to_z-of_z {w = w64} (record { sfits = h })

pub put_back : (z : ℤ) (after : ℕ) {b c : List ℕ} {at e : ℕ} → mag z < 2 ^ 63 → Put b at (signed_text (to_z w64 (of_z w64 z)) ++ (after ∷ [])) c e
    → Put b at (signed_text z ++ (after ∷ [])) c e
put_back z after h p = put_as (ap (λ (n : ℤ). signed_text n ++ (after ∷ [])) (read_back z h)) p
