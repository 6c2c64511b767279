-- Rule 1 for one contract: which answer it has after some contracts before it. Assumes nothing.
use Rattle.std.specs.Prelude.{Ok, Err}
use mathlib.Core.Path.{◌≡◌, refl, ap}
use mathlib.Core.Bool.{true}
use mathlib.Core.List.{List, [], ◌∷◌, map}
use Prim.Native.Nat.{ℕ}
use lib.Dec.{leb, ltb}
use lib.IntN.{pos}
use lib.Signed.{le_z}
use borrow.Author.Tests.{leb-true, leb-false, ltb-true, not-true, le-leb, lt-leb, lt-ltb}
use Rattle.numbers.proofs.Tests.{both, both_true, le-true, le-false, true-le, false-le}
use Rattle.method.specs.words.Types.{Key, Contract, Millionths, Line, TableReason}
use Rattle.method.specs.words.Growth.{most_exponent}
use Rattle.method.specs.words.Opening.{exponent_of, terms_of, market_of, fresh_line}
use Rattle.method.specs.words.Tables.{Fresh, its_terms, its_corridor, its_line, Good, Fault}
use Rattle.method.specs.told.Questions.{listed}
use Rattle.method.specs.computed.Types.{LineAnswer}
use Rattle.method.specs.computed.Opening.{id_good, inside_bounds, opened_with, open_line, ids}
use Rattle.method.proofs.Every.{every_of_map, every_to_map}
use Rattle.method.proofs.Demands.{by_demand}
use Rattle.method.proofs.Decided.{denied, refuted, listed-not, not_listed, inside_in, inside_test}
use Rattle.method.proofs.Fields.{contract_test, first-named, by_fields}

-- ---- the ids of the lines that contracts open are the contracts' own
module _ (shift : Millionths) (keys : List Key) where
  abbrev pub lines_of : List Contract → List Line
  lines_of cs = map (its_line shift keys) cs

  abbrev its_id : Contract → ℕ
  its_id c = (its_line shift keys c).terms.id

  -- the ids of these lines, read one by one off the contracts
  ids_of : (cs : List Contract) → ids (lines_of cs) ≡ map its_id cs
  ids_of [] = refl
  ids_of (c ∷ cs) = ap (λ (is : List ℕ). its_id c ∷ is) (ids_of cs)

  fresh_in : (earlier : List Contract) (id : ℕ) → id_good (lines_of earlier) id ≡ true → Fresh earlier id
  unfolding id_good fresh_line terms_of
  fresh_in earlier id e =
      let p = both (ltb 0 id) _ e in
      let new = rw (ids_of earlier) at (listed-not id (ids (lines_of earlier)) (not-true (listed id (ids (lines_of earlier))) p.1)) in
      record { given = ltb-true 0 id p.0; new = every_of_map (λ i. i ≡ id → ⊥) its_id earlier new }

  fresh_test : (earlier : List Contract) (id : ℕ) → Fresh earlier id → id_good (lines_of earlier) id ≡ true
  unfolding id_good fresh_line terms_of
  fresh_test earlier id r = both_true (lt-ltb 0 id r.given)
      (rw (not_listed id (ids (lines_of earlier)) (rw (ids_of earlier) (every_to_map (λ i. i ≡ id → ⊥) its_id earlier r.new))))

  -- ---- one contract
  pub data LineAnswered (earlier : List Contract) (c : Contract) : LineAnswer → Type 0 where
    line-good : Good shift keys earlier c → LineAnswered earlier c (Ok (its_line shift keys c))
    line_bad : (why : TableReason) → Fault shift keys earlier c why → LineAnswered earlier c (Err why)

  pub line_answered : (earlier : List Contract) (c : Contract) → LineAnswered earlier c (open_line shift keys (lines_of earlier) c)
  unfolding open_line opened_with
  line_answered earlier c =
      let t = its_terms shift keys c in
      let m = market_of c in
      let k = its_corridor shift keys c in
      let y = exponent_of keys c in
      by_fields c (LineAnswered earlier c)
      (λ a. by_demand (LineAnswered earlier c) (id_good (lines_of earlier) c.id)
      (λ b. by_demand (LineAnswered earlier c) (leb y most_exponent)
      (λ d. by_demand (LineAnswered earlier c) (le_z (pos 1) t.halfmove.0)
      (λ e. by_demand (LineAnswered earlier c) (inside_bounds t.factors m k)
      (λ f. line-good (record {
        fields = a;
        id = fresh_in earlier c.id b;
        cap = leb-true y most_exponent d;
        moves = le-true (pos 1) t.halfmove.0 e;
        inside = inside_in t.factors m k f;
      }))
      (λ f. line_bad TableReason.Corridor (Fault.limit a (fresh_in earlier c.id b) (leb-true y most_exponent d) (le-true (pos 1) t.halfmove.0 e) (denied (inside_bounds t.factors m k) (inside_test t.factors m k) f))))
      (λ e. line_bad TableReason.HalfMove (Fault.half_move a (fresh_in earlier c.id b) (leb-true y most_exponent d) (le-false (pos 1) t.halfmove.0 e))))
      (λ d. line_bad TableReason.Exponent (Fault.exponent a (fresh_in earlier c.id b) (leb-false y most_exponent d))))
      (λ b. line_bad TableReason.Id (Fault.id a (denied (id_good (lines_of earlier) c.id) (fresh_test earlier c.id) b))))
      (λ before f rest e r n. line_bad (TableReason.Field f) (Fault.field before f rest e r n))

  pub line-opened : (earlier : List Contract) (c : Contract) → Good shift keys earlier c → open_line shift keys (lines_of earlier) c ≡ Ok (its_line shift keys c)
  unfolding open_line opened_with
  line-opened earlier c g =
      rw (contract_test c g.fields, fresh_test earlier c.id g.id, le-leb _ _ g.cap, true-le g.moves, inside_test _ _ _ g.inside)

  pub line_refused : (earlier : List Contract) (c : Contract) {why : TableReason} → Fault shift keys earlier c why → open_line shift keys (lines_of earlier) c ≡ Err why
  unfolding open_line opened_with
  line_refused earlier c (Fault.field before f rest e r n) = rw (first-named c before f rest e r n)
  line_refused earlier c (Fault.id a f) = rw (contract_test c a, refuted (id_good (lines_of earlier) c.id) (fresh_in earlier c.id) f)
  line_refused earlier c (Fault.exponent a b f) = rw (contract_test c a, fresh_test earlier c.id b, lt-leb _ _ f)
  line_refused earlier c (Fault.half_move a b d f) = rw (contract_test c a, fresh_test earlier c.id b, le-leb _ _ d, false-le f)
  line_refused earlier c (Fault.limit a b d e f) =
      let t = its_terms shift keys c in
      let m = market_of c in
      let k = its_corridor shift keys c in
      rw (contract_test c a, fresh_test earlier c.id b, le-leb _ _ d, true-le e, refuted (inside_bounds t.factors m k) (inside_in t.factors m k) f)
