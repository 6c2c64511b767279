-- In every session from an accepted table no interest bound is too narrow: a line opens with the factors of its contract's exponent, which the cap
-- admits, and they stay. Assumes nothing.
use mathlib.Core.Path.{◌≡◌, refl, ◌∙◌, ap, subst}
use mathlib.Core.List.{List, [], ◌∷◌, ◌++◌, map}
use Prim.Native.Nat.{ℕ, ◌≤◌}
use Rattle.method.specs.words.Types.{Millionths, Key, Contract, Line, State}
use Rattle.method.specs.words.Growth.{most_exponent, factors_of}
use Rattle.method.specs.words.Bounds.{market_bound, bound}
use Rattle.method.specs.words.Opening.{terms_of, fresh_line, exponent_of}
use Rattle.method.specs.words.Tables.{Opening, opened, opening_state, keys_of, contracts_of, its_line, Good, GoodAll, TableAnswered, too_short, edition_not_1, header_out_of_range, not_as_counts_say, bad_key_line, bad_contract_line, all_good}
use Rattle.method.specs.words.Shifts.{Each}
use Rattle.method.specs.laws.Seen.{Shifted}
use Rattle.method.specs.laws.Outer.{Covered, BoundsCovered}
use Rattle.method.proofs.Table.{not_opened, same-state}
use Rattle.method.proofs.Outer.{never_too_narrow}
use Rattle.method.proofs.Each.{each_by}
use Rattle.method.proofs.Rule3.{shifted-lines}

-- ---- at opening
record OwnFactors (keys : List Key) (c : Contract) (l : Line) : Type 0 where
  cap : exponent_of keys c ≤ most_exponent
  factors : l.terms.factors ≡ factors_of (exponent_of keys c)

module _ (shift : Millionths) (keys : List Key) where
  own_factors : (earlier : List Contract) (c : Contract) → Good shift keys earlier c → OwnFactors keys c (its_line shift keys c)
  unfolding fresh_line terms_of
  own_factors earlier c g = record { cap = g.cap; factors = refl }

  own_factors_each : (earlier cs : List Contract) → GoodAll shift keys earlier cs → Each (OwnFactors keys) cs (map (its_line shift keys) cs)
  unfolding GoodAll Each
  own_factors_each earlier [] g = tt
  own_factors_each earlier (c ∷ cs) g = (own_factors earlier c g.0, own_factors_each (earlier ++ (c ∷ [])) cs g.1)

own_at_opening : (b : List ℕ) {a : Opening} (o : State) → TableAnswered b a → a ≡ opened o → Each (OwnFactors (keys_of b)) (contracts_of b) o.lines
own_at_opening b o (too_short _) e = absurd (not_opened e)
own_at_opening b o (edition_not_1 _ _) e = absurd (not_opened e)
own_at_opening b o (header_out_of_range _ _ _) e = absurd (not_opened e)
own_at_opening b o (not_as_counts_say _ _ _ _) e = absurd (not_opened e)
own_at_opening b o (bad_key_line _ _ _ _ _ _ _) e = absurd (not_opened e)
own_at_opening b o (bad_contract_line _ _ _ _ _ _ _ _ _) e = absurd (not_opened e)
own_at_opening b o (all_good f k g) e =
    subst (λ (s : State). Each (OwnFactors (keys_of b)) (contracts_of b) s.lines) (same-state e) (unfold opening_state in own_factors_each _ _ [] _ g)

-- ---- and later
covered : {u d : ℕ} (keys : List Key) (c : Contract) (o l : Line) → OwnFactors keys c o → Shifted u d o l → Covered (exponent_of keys c) l
unfolding bound
covered keys c o l g r side =
    let same = ap (λ t. t.factors) r.terms ∙ g.factors in
    rw same (never_too_narrow (exponent_of keys c) g.cap side (market_bound side l.market.centre l.market.half1))

pub bounds_covered : BoundsCovered
bounds_covered o s cs q m =
    let keys = keys_of q.table in
    each_by (OwnFactors keys) _ (λ c. Covered (exponent_of keys c)) (covered keys) (contracts_of q.table) o.lines s.lines
    (own_at_opening q.table o q.opened_by refl) (shifted-lines o q m)
