-- `host_intact::lines`: what is decided of each line that was read, by the head that was read, is decided of the session's lines.
use Rattle.std.proofs.Common.{rules, ◌≡◌, ℕ, ◌<◌, ◌≤◌, Bool, true, false, List, map, length, take, get_or, arith, sym, subst}
use borrow.Author.Tests.{tests}
use Rattle.std.proofs.iter.Serving.{serving}
use Rattle.std.proofs.lemmas.Iterator.{cases_from_all, YieldsList-from_slice}
use Rattle.std.specs.Bool.{MatchBool}
use Rattle.std.specs.List.{AllWithin, HoldsAt}
use Rattle.numbers.specs.Decides.{Decides}
use Rattle.method.specs.words.Types.{blank}
use Rattle.method.specs.words.Ranges.{most_shifts, largest_near_share}
use Rattle.method.specs.computed.Head.{most_left}
use Rattle.corridor.specs.declared.Session.{Session}
use Rattle.corridor.specs.View.{view}
use Rattle.host_row.specs.Packed.{line_in}
use Rattle.host_memory.specs.Names.{Head}
use Rattle.host_memory.specs.Memory.{no_pair, session_of, session_in}
use Rattle.host_memory.proofs.Places.{full_in}
use Rattle.host_intact.specs.Tests.{LinesIn}
use Rattle.host_intact.proofs.Whole.{Fit, pairs_long, pair_at}
use Rattle.host_intact.proofs.lines.Goals as goal

module _ (s : Session) (h : Head) (read : s ≡ session_of s.lines h) (pairs : List (List (List ℕ))) (e : map line_in pairs ≡ take s.count s.lines) (few : s.count ≤ length s.lines) where
  -- what is decided of a pair, and of the line of the session that it has
  abbrev FitPair : List (List ℕ) → Type 0
  FitPair p = Fit h.near h.left h.left (line_in p)

  same : (i : ℕ) → i < s.count → Fit s.near s.left (most_left (view s)) (get_or s.lines i blank) ≡ FitPair (get_or pairs i no_pair)
  unfolding most_left
  same i g = λ j. Fit (read j).near (read j).left (read j).left (sym (pair_at pairs s.count s.lines e few i g) j)

  decided : (r : Bool) → MatchBool r (AllWithin FitPair pairs 0 (length pairs)) ((k : ℕ) × (k < length pairs) × HoldsAt (λ p. FitPair p → ⊥) pairs k) → Decides r (LinesIn s)
  decided true fit = λ i g. subst (λ (P : Type 0). P) (sym (same i g)) (fit i no_pair (omega arith) (omega (arith, pairs_long pairs s.count s.lines e few)))
  decided false (k, g, unfit) = λ lines.
      let inside : k < s.count = omega (arith, pairs_long pairs s.count s.lines e few) in
      unfit no_pair (subst (λ (P : Type 0). P) (same k inside) (lines k inside))

pub all-requires-clause-callable : goal.all-requires-clause-callable
unfolding most_left
all-requires-clause-callable c =
    let left : c.head-head.result.left ≤ most_shifts = subst (λ (s : Session). s.left ≤ most_shifts) c.head-head.ensures c.requires.left in
    let near : c.head-head.result.near.0 ≤ largest_near_share = subst (λ (s : Session). s.near.0 ≤ largest_near_share) c.head-head.ensures c.requires.near.most in
    grind serving

pub returns : goal.returns
returns c =
    let s = session_in c.args.session.now in
    let h = c.head-head.result in
    let pairs = c.lines.result.now in
    let few : s.count ≤ length s.lines = omega (arith, c.requires.few, full_in c.args.session.now c.told-session) in
    decided s h c.head-head.ensures pairs c.lines.ensures few c.all.result
    (cases_from_all _ _ _ (FitPair s h c.head-head.ensures pairs c.lines.ensures few) (λ p. FitPair s h c.head-head.ensures pairs c.lines.ensures few p → ⊥)
    c.all.ensures.ran (YieldsList-from_slice pairs cc) (λ x q k. search (rules, tests)) (λ x q k. search (rules, tests)))
