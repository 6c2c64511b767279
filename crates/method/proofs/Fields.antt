-- A contract's fields: each is good exactly where it is in its range, and the first that is not is the one that is named. Assumes nothing.
use Rattle.std.specs.Prelude.{Ok, Err}
use mathlib.Core.Path.{◌≡◌, refl, sym, ap, ◌∙◌}
use mathlib.Core.Bool.{Bool, true, false, ◌||◌, cond}
use mathlib.Core.List.{List, [], ◌∷◌, ◌++◌}
use Prim.Native.Nat.{ℕ}
use native.Mathlib.Omega.{arith}
use lib.IntN.{pos}
use borrow.Author.Tests.{leb-true, ltb-true, le-leb, lt-ltb}
use Rattle.numbers.proofs.Tests.{both, both_true, le-true, true-le, in_range-true, range_in, between-true, span_in, in_span-true, within_in}
use Rattle.method.specs.words.Types.{Contract, Field, TableReason}
use Rattle.method.specs.words.Ranges.{whole, most_days, largest_price, permits_negative, FieldIn, ContractIn, contract_fields, Every}
use Rattle.method.specs.computed.Types.{FieldsAnswer, LineAnswer}
use Rattle.method.specs.computed.Opening.{field_good, first_bad, fields_answer, if_fields_good}
use Rattle.method.proofs.Decided.{denied, refuted}

-- ---- one field
field_in : (f : Field) (c : Contract) → field_good f c ≡ true → FieldIn f c
unfolding field_good
field_in Field.Price c e =
    let p = both _ _ e in (in_span-true largest_price c.price.0 p.0, λ n. le-true (pos 1) c.price.0 (rw n at p.1))
field_in Field.Spot c e = in_span-true largest_price c.spot.0 e
field_in Field.Least c e = between-true (pos 1) (pos largest_price) c.least.0 e
field_in Field.Rate1 c e = in_range-true 1 whole c.rate1.0 e
field_in Field.Rate2 c e = let p = both _ _ e in (in_range-true 1 whole c.rate2.0 p.0, leb-true c.rate1.0 c.rate2.0 p.1)
field_in Field.Rate3 c e = let p = both _ _ e in (in_range-true 1 whole c.rate3.0 p.0, leb-true c.rate2.0 c.rate3.0 p.1)
field_in Field.Width c e = leb-true c.width.0 whole e
field_in Field.Days c e = leb-true c.days most_days e
field_in Field.Flags c e = ltb-true c.flags 4 e

permitted_or : (p : Bool) {q : Bool} → (p ≡ false → q ≡ true) → (p || q) ≡ true
permitted_or true f = refl
permitted_or false f = f refl

field_test : (f : Field) (c : Contract) → FieldIn f c → field_good f c ≡ true
unfolding field_good
field_test Field.Price c r = both_true (within_in r.0) (permitted_or (permits_negative c.flags) (λ n. true-le (r.1 n)))
field_test Field.Spot c r = within_in r
field_test Field.Least c r = span_in r
field_test Field.Rate1 c r = range_in r
field_test Field.Rate2 c r = both_true (range_in r.0) (le-leb c.rate1.0 c.rate2.0 r.1)
field_test Field.Rate3 c r = both_true (range_in r.0) (le-leb c.rate2.0 c.rate3.0 r.1)
field_test Field.Width c r = le-leb c.width.0 whole r
field_test Field.Days c r = le-leb c.days most_days r
field_test Field.Flags c r = lt-ltb c.flags 4 r

-- ---- the first bad one of some fields
module _ (c : Contract) where
  abbrev Good : List Field → Type 0
  Good fs = Every (λ f. FieldIn f c) fs

  data FieldsAnswered (fs : List Field) : FieldsAnswer → Type 0 where
    fields-good : Good fs → FieldsAnswered fs (Ok tt)
    field_bad :
        (before : List Field) (f : Field) (rest : List Field) → fs ≡ before ++ f ∷ rest → Good before → (FieldIn f c → ⊥)
        → FieldsAnswered fs (Err f)

  fields_answered : (fs : List Field) → FieldsAnswered fs (first_bad c fs)
  unfolding first_bad Every
  fields_answered [] = fields-good tt
  fields_answered (f ∷ fs) = go (field_good f c) refl (fields_answered fs)
    where
      later : FieldIn f c → {a : FieldsAnswer} → FieldsAnswered fs a → FieldsAnswered (f ∷ fs) a
      later g (fields-good r) = fields-good (unfold Every in (g, r))
      later g (field_bad before e rest q r n) = field_bad (f ∷ before) e rest (ap (λ (es : List Field). f ∷ es) q) (unfold Every in (g, r)) n

      go : (t : Bool) → field_good f c ≡ t → FieldsAnswered fs (first_bad c fs) → FieldsAnswered (f ∷ fs) (cond t (first_bad c fs) (Err f))
      go true e more = later (field_in f c e) more
      go false e more = field_bad [] f fs refl (unfold Every in tt) (denied (field_good f c) (field_test f c) e)

  none_bad : (fs : List Field) → Good fs → first_bad c fs ≡ Ok tt
  unfolding first_bad Every
  none_bad [] r = refl
  none_bad (f ∷ fs) r = rw (field_test f c r.0) (none_bad fs r.1)

  first-is : (before : List Field) (f : Field) (rest : List Field) → Good before → (FieldIn f c → ⊥) → first_bad c (before ++ f ∷ rest) ≡ Err f
  unfolding first_bad Every
  first-is [] f rest r n = rw (refuted (field_good f c) (field_in f c) n)
  first-is (e ∷ before) f rest r n = rw (field_test e c r.0) (first-is before f rest r.1 n)

  -- ---- all fields of the contract
  each_field : Good contract_fields → ContractIn c
  unfolding Every
  each_field r Field.Price = r.0
  each_field r Field.Spot = r.1.0
  each_field r Field.Least = r.1.1.0
  each_field r Field.Rate1 = r.1.1.1.0
  each_field r Field.Rate2 = r.1.1.1.1.0
  each_field r Field.Rate3 = r.1.1.1.1.1.0
  each_field r Field.Width = r.1.1.1.1.1.1.0
  each_field r Field.Days = r.1.1.1.1.1.1.1.0
  each_field r Field.Flags = r.1.1.1.1.1.1.1.1.0

  all_good : (fs : List Field) → ContractIn c → Good fs
  unfolding Every
  all_good [] r = tt
  all_good (f ∷ fs) r = (r f, all_good fs r)

  pub contract_test : ContractIn c → fields_answer c ≡ Ok tt
  contract_test r = none_bad contract_fields (all_good contract_fields r)

  pub first-named : (before : List Field) (f : Field) (rest : List Field) → contract_fields ≡ before ++ f ∷ rest → Good before → (FieldIn f c → ⊥)
      → fields_answer c ≡ Err f
  first-named before f rest e r n = rw e (first-is before f rest r n)

  -- a contract is in its ranges, or has a first field that is not
  pub by_first : {A : Type 0} → (ContractIn c → A)
      → ((before : List Field) (f : Field) (rest : List Field) → contract_fields ≡ before ++ f ∷ rest → Good before → (FieldIn f c → ⊥) → A) → A
  by_first {A} good bad = go (fields_answered contract_fields)
    where
      go : {a : FieldsAnswer} → FieldsAnswered contract_fields a → A
      go (fields-good r) = good (each_field r)
      go (field_bad before f rest e r n) = bad before f rest e r n

  -- what holds of both answers holds of the choice between them
  pub by_fields : (P : LineAnswer → Type 0) {onward : LineAnswer} → (ContractIn c → P onward)
      → ((before : List Field) (f : Field) (rest : List Field) → contract_fields ≡ before ++ f ∷ rest → Good before → (FieldIn f c → ⊥)
      → P (Err (TableReason.Field f)))
      → P (if_fields_good (fields_answer c) onward)
  by_fields P good bad =
      by_first (λ q. rw (contract_test q) (good q)) (λ before f rest e r n. rw (first-named before f rest e r n) (bad before f rest e r n))

  not_bad : {f : Field} → ◌≡◌ {A = FieldsAnswer} (Err f) (Ok tt) → ⊥
  not_bad e = let z : ◌≡◌ {A = ℕ} 0 1 = cc in omega arith

  pub contract_in : fields_answer c ≡ Ok tt → ContractIn c
  contract_in e = by_first (λ q. q) (λ before f rest p r n. absurd (not_bad (sym (first-named before f rest p r n) ∙ e)))
