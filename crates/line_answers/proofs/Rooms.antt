-- What a line's numbers allow: its bounds to be drawn. Assumes nothing.
use Prim.Native.Nat.{ℕ}
use native.Mathlib.Omega.{arith}
use Rattle.numbers.specs.Ranges.{Within}
use Rattle.numbers.proofs.Ranges.{within_more}
use Rattle.method.specs.computed.Rooms.{largest_reach, Room}
use Rattle.method.specs.declared.Line.{Line}
use Rattle.method.proofs.Rooms.{span_within}
use Rattle.bounds.specs.Asks.{Drawn}

module _ {left : ℕ} {l : Line} (r : Room left l) where
  pub room-centre : Within largest_reach l.market.centre.0
  room-centre = within_more r.market.centre (omega arith)

  pub room-half1 : Within largest_reach l.market.half1.0
  room-half1 = within_more (span_within r.market.half1) (omega arith)

  pub room-half2 : Within largest_reach l.market.half2.0
  room-half2 = within_more (span_within r.market.half2) (omega arith)

  pub room-half3 : Within largest_reach l.market.half3.0
  room-half3 = within_more (span_within r.market.half3) (omega arith)

  pub room-drawn : Drawn l.terms.factors l.market
  room-drawn = record { factors = r.terms.factors; centre = room-centre; half1 = room-half1 }

-- what is asked of a level of the market or of an interest bound, whichever it is
pub ruleset rooms = (room-centre, room-half1, room-half2, room-half3, room-drawn)
