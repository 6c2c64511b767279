-- What the steps of a shift come to fits an `i64`, from what they ask; and from what a moved line asks to what its parts ask.
-- Assumes nothing.
use mathlib.Core.Path.{◌≡◌, sym, ap, ◌∙◌}
use lib.Dec.{lit<, lit≤}
use lib.IntN.{ℤ, ◌+ℤ◌, ◌-ℤ◌}
use mir.Syntax.{w64}
use mir.Val.{SFits}
use Rattle.std.proofs.Math.IntN.{neg_ℤ, neg_ℤ-+ℤ, neg_ℤ-neg_ℤ, +ℤ_comm}
use Rattle.numbers.specs.Ranges.{Within}
use Rattle.numbers.proofs.Ranges.{fits, within_more, within_add, within_sub}
use Rattle.method.specs.words.Bounds.{bound}
use Rattle.method.specs.computed.Rooms.{largest_half_move, reach, largest_bound}
use Rattle.method.specs.computed.Shift.{moved}
use Rattle.bounds.specs.Asks.{Drawn}
use Rattle.bounds.proofs.Drawing.{drawn_within}
use Rattle.shifts.specs.Names.{Side, Up, Down, Factors, Market, Line}
use Rattle.shifts.specs.Asks.{Carried, Redrawable, Shiftable}

module _ {by z : ℤ} (h : Within largest_half_move by) (w : Within (reach 1) z) where
  pub sum_in_reach : SFits w64 (z +ℤ by)
  sum_in_reach = fits (within_add w h) (lit< tt)

  pub difference_in_reach : SFits w64 (z -ℤ by)
  difference_in_reach = fits (within_sub w h) (lit< tt)

pub ruleset moves = (sum_in_reach, difference_in_reach)

module _ {z a b : ℤ} (q : Carried z a b) where
  pub rise_fits : SFits w64 (b -ℤ a)
  rise_fits = fits (within_sub q.to q.from) (lit< tt)

  pub carried_fits : SFits w64 (z +ℤ (b -ℤ a))
  carried_fits = fits (within_add q.limit (within_sub q.to q.from)) (lit< tt)

pub ruleset carries = (rise_fits, carried_fits)

-- the same, as the lower limit's move is told
pub carried_down : (z a b : ℤ) → z +ℤ (b -ℤ a) ≡ z -ℤ (a -ℤ b)
carried_down z a b =
    sym (ap (λ (y : ℤ). z +ℤ y) (neg_ℤ-+ℤ a (neg_ℤ b) ∙ ap (λ (y : ℤ). neg_ℤ a +ℤ y) (neg_ℤ-neg_ℤ b) ∙ +ℤ_comm (neg_ℤ a) b))

-- ---- what a limit goes with: bounds, and any number whose range is known
pub bound_in_reach : (side : Side) {f : Factors} {m : Market} {z : ℤ} → z ≡ bound side f m → Drawn f m → Within largest_bound z
bound_in_reach side e d = rw e (drawn_within d side)

pub ruleset reaches = (bound_in_reach, within_more)

-- ---- a line's market and limits
module _ {l : Line} (q : Shiftable l) where
  here : Drawn l.terms.factors l.market
  here = record { factors = q.factors; centre = within_more q.market.centre (lit≤ tt); half1 = within_more q.market.half1 (lit≤ tt) }

  there : (side : Side) → Drawn l.terms.factors (moved side l.terms.halfmove l.market)
  unfolding moved
  there Up = record { factors = q.factors; centre = within_add q.market.centre q.market.small; half1 = within_add q.market.half1 q.market.small }
  there Down = record { factors = q.factors; centre = within_sub q.market.centre q.market.small; half1 = within_add q.market.half1 q.market.small }

  pub shiftable_redrawable : (side : Side) → Redrawable l.terms l.market (moved side l.terms.halfmove l.market) l.limits
  shiftable_redrawable side = record { from = here; to = there side; limits = q.limits }
