-- A header whose counts say more than the longest table has is refused by itself, whatever follows it. Assumes nothing.
use mathlib.Core.Path.{◌≡◌, refl, ap, ◌∙◌}
use mathlib.Core.Bool.{Bool, true, false}
use mathlib.Core.List.{List}
use mathlib.Core.Logic.{◌⊎◌, inl, inr}
use Prim.Native.Nat.{ℕ, ◌+◌, ◌-◌, ◌≤◌, ◌<◌}
use native.Mathlib.Nat.{eq-zero-or-pos}
use native.Mathlib.Omega.{arith}
use borrow.Author.Tests.{le-leb}
use lib.Dec.{leb, eqb}
use lib.ListN.{length, take}
use lib.Seq.{get_or-take, length-take-le, take_all}
use Rattle.method.specs.declared.Header.{Header}
use Rattle.method.specs.declared.TableReason.{TableReason}
use Rattle.method.specs.words.Types.{State}
use Rattle.method.specs.words.Wire.{word}
use Rattle.method.specs.words.Layout.{header_of, table_length}
use Rattle.method.specs.words.Tables.{Opening, opened, refused}
use Rattle.method.specs.told.Questions.{demand}
use Rattle.method.specs.computed.Table.{header_good, opening}
use Rattle.method.proofs.Table.{header_in, not_opened}
use Rattle.session.specs.Reading.{longest_table}

word_front : (n : ℕ) (b : List ℕ) (at : ℕ) → at + 4 ≤ n → word (take n b) at ≡ word b at
unfolding word
word_front n b at h =
    rw (
      get_or-take n b at 0 (omega arith),
      get_or-take n b (at + 1) 0 (omega arith),
      get_or-take n b (at + 2) 0 (omega arith),
      get_or-take n b (at + 3) 0 (omega arith),
    )

module _ (n : ℕ) (b : List ℕ) (h : 40 ≤ n) where
  pub header_front : header_of (take n b) ≡ header_of b
  unfolding header_of
  header_front =
      rw (
        word_front n b 0 (omega arith),
        word_front n b 4 (omega arith),
        word_front n b 8 (omega arith),
        word_front n b 12 (omega arith),
        word_front n b 16 (omega arith),
        word_front n b 20 (omega arith),
        word_front n b 24 (omega arith),
        word_front n b 28 (omega arith),
        word_front n b 32 (omega arith),
        word_front n b 36 (omega arith),
      )

  long_front : leb 40 (length (take n b)) ≡ leb 40 (length b)
  long_front = go (eq-zero-or-pos (length b - n))
    where
      go : (length b - n ≡ 0) ⊎ (0 < length b - n) → leb 40 (length (take n b)) ≡ leb 40 (length b)
      go (inl e) = ap (λ (xs : List ℕ). leb 40 (length xs)) (take_all n b (omega arith))
      go (inr p) =
          rw (length-take-le n b (omega arith), le-leb 40 n h, le-leb 40 (length b) (omega arith))

-- refusals 1 and 2, and else 3
abbrev header-answer : Bool → Header → Opening
header-answer long h =
    demand long (refused TableReason.Length 0) (demand (eqb h.edition 1) (refused TableReason.Edition 0) (refused TableReason.Header 0))

never_opened : (long : Bool) (h : Header) (s : State) → header-answer long h ≡ opened s → ⊥
never_opened false h s = not_opened
never_opened true h s = go (eqb h.edition 1)
  where
    go : (first : Bool) → demand first (refused TableReason.Edition 0) (refused TableReason.Header 0) ≡ opened s → ⊥
    go true = not_opened
    go false = not_opened

out_of_range : (h : Header) → longest_table < table_length h → header_good h ≡ false
out_of_range h many = go (header_good h) refl
  where
    go : (t : Bool) → header_good h ≡ t → header_good h ≡ false
    go false e = e
    go true e = let i = header_in h e in absurd (omega (arith, i.keys.most, i.contracts.most))

by_header : (b : List ℕ) → header_good (header_of b) ≡ false → opening b ≡ header-answer (leb 40 (length b)) (header_of b)
unfolding opening
by_header b e = rw e

module _ (b : List ℕ) (many : longest_table < table_length (header_of b)) where
  front_answer : (n : ℕ) → 40 ≤ n → opening (take n b) ≡ header-answer (leb 40 (length b)) (header_of b)
  front_answer n h =
      by_header (take n b) (ap header_good (header_front n b h) ∙ out_of_range (header_of b) many)
      ∙ rw (long_front n b h, header_front n b h)

  pub same_answer : (m n : ℕ) → 40 ≤ m → 40 ≤ n → opening (take m b) ≡ opening (take n b)
  same_answer m n h k = rw (front_answer m h, front_answer n k)

  pub is-refused : (n : ℕ) → 40 ≤ n → (s : State) → opening (take n b) ≡ opened s → ⊥
  is-refused n h s = rw (front_answer n h) (never_opened (leb 40 (length b)) (header_of b) s)
