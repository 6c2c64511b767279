-- Each test of a table holds exactly where its fact does. That the fact holds where the test does stands, for the longer ones, in
-- proofs/Opening and proofs/Table. Assumes nothing.
use mathlib.Core.Path.{◌≡◌, refl}
use mathlib.Core.Bool.{Bool, true, false, ◌||◌}
use mathlib.Core.List.{List, [], ◌∷◌}
use Prim.Native.Nat.{ℕ}
use lib.Dec.{eqb}
use borrow.Author.Tests.{eqb-true, eqb-false, le-leb, lt-ltb, eq-eqb, ne_eqb}
use Rattle.numbers.proofs.Tests.{both, both_true, never_both, le-true, true-le, range_in}
use Rattle.method.specs.words.Types.{Header, Key, Factors, Market, Limits}
use Rattle.method.specs.words.Ranges.{most_shifts, largest_rate, HeaderIn, KeyIn, Every}
use Rattle.method.specs.words.Tables.{Laid, InsideBounds}
use Rattle.method.specs.told.Questions.{listed}
use Rattle.method.specs.computed.Opening.{inside_bounds}
use Rattle.method.specs.computed.Table.{header_good, laid_out, key_good}

-- ---- a test that fails denies what it decides; one that decides it holds where that holds
pub denied : {P : Type 0} (t : Bool) → (P → t ≡ true) → t ≡ false → P → ⊥
denied t f e p = never_both e (f p)

pub refuted : {P : Type 0} (t : Bool) → (t ≡ true → P) → (P → ⊥) → t ≡ false
refuted true f n = absurd (n (f refl))
refuted false f n = refl

-- the same of a test whose failure has a meaning
pub denied_not : {P : Type 0} (t : Bool) → (P → t ≡ false) → t ≡ true → P → ⊥
denied_not t f e p = never_both (f p) e

pub refuted_not : {P : Type 0} (t : Bool) → (t ≡ false → P) → (P → ⊥) → t ≡ true
refuted_not true f n = refl
refuted_not false f n = absurd (n (f refl))

-- ---- each test holds where its fact does (the other way stands in proofs/Opening and proofs/Table)
pub header_test : (h : Header) → HeaderIn h → header_good h ≡ true
unfolding header_good
header_test h r =
    both_true
    (both_true
    (both_true
    (both_true (both_true (both_true (range_in r.contracts) (range_in r.keys)) (range_in r.end)) (range_in r.hold))
    (le-leb h.most most_shifts r.most)) (range_in r.near)) (range_in r.shift)

pub laid_in : (h : Header) (size : ℕ) → laid_out h size ≡ true → Laid h size
unfolding laid_out
laid_in h size e =
    let whole = both _ _ e in
    let offsets = both _ _ whole.0 in
    record { keys = eqb-true _ _ offsets.0; contracts = eqb-true _ _ offsets.1; whole = eqb-true _ _ whole.1 }

pub laid_test : (h : Header) (size : ℕ) → Laid h size → laid_out h size ≡ true
unfolding laid_out
laid_test h size r = both_true (both_true (eq-eqb _ _ r.keys) (eq-eqb _ _ r.contracts)) (eq-eqb _ _ r.whole)

pub key_test : (before : ℕ) (k : Key) → KeyIn before k → key_good before k ≡ true
unfolding key_good
key_test before k r = both_true (both_true (range_in r.days) (lt-ltb before k.days r.rising)) (le-leb k.rate.0 largest_rate r.rate)

pub inside_in : (f : Factors) (m : Market) (k : Limits) → inside_bounds f m k ≡ true → InsideBounds f m k
unfolding inside_bounds
inside_in f m k e = let p = both _ _ e in record { upper = le-true _ _ p.0; lower = le-true _ _ p.1 }

pub inside_test : (f : Factors) (m : Market) (k : Limits) → InsideBounds f m k → inside_bounds f m k ≡ true
unfolding inside_bounds
inside_test f m k r = both_true (true-le r.upper) (true-le r.lower)

-- an id that is not listed is none of them
pub listed-not : (id : ℕ) (is : List ℕ) → listed id is ≡ false → Every (λ i. i ≡ id → ⊥) is
unfolding listed Every
listed-not id [] e = tt
listed-not id (i ∷ is) e = go (eqb i id) refl e (listed-not id is)
  where
    go : (t : Bool) → eqb i id ≡ t → (t || listed id is) ≡ false → (listed id is ≡ false → Every (λ j. j ≡ id → ⊥) is)
        → (i ≡ id → ⊥) × Every (λ j. j ≡ id → ⊥) is
    go true q e more = never_both e refl
    go false q e more = (eqb-false i id q, more e)

pub not_listed : (id : ℕ) (is : List ℕ) → Every (λ i. i ≡ id → ⊥) is → listed id is ≡ false
unfolding listed Every
not_listed id [] r = refl
not_listed id (i ∷ is) r = rw (ne_eqb i id r.0) (not_listed id is r.1)
