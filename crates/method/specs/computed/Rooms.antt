-- The ranges of a session's numbers: what an accepted table tells of the lines that it opens, and what every shift and every event keep. The code
-- rests on them, and so does whoever takes a session up from a state that was kept (`Proper`).
use Rattle.std.specs.Prelude.{true, false, ◌≡◌, ℕ, ◌+◌, ◌≤◌, ◌<◌, ◌-◌, ◌*◌, ◌/◌, pos, length, ◌≤ℤ◌, None, Some, Ok, Err}
use Rattle.numbers.specs.Ranges.{Within, Between, Span}
use Rattle.method.specs.words.Types.{Up, Down, Factors, Terms, Market, Limits, Price, Book, Hold, Holds, Line, seconds, State, empty_book, no_holds}
use Rattle.method.specs.words.Ranges.{most_contracts, longest_session, longest_hold, most_shifts, largest_near_share, largest_price, largest_quote, permits_negative, Every}
use Rattle.method.specs.words.Bounds.{bound}
use Rattle.method.specs.computed.Types.{ReadEvent, Tick, Quoted}
use Rattle.method.specs.computed.Head.{most_left}

-- ---- bounds that follow from the ends that the words name; by them the code's sums and products fit
-- of a half-move: half the largest half-width, at a shift share of the whole
abbrev pub largest_half_move : ℕ
largest_half_move = largest_price / 2

-- How far a centre and a half-width reach while `most` shifts may still be made: the largest price at opening, and at most a half-move further by
-- each shift.
abbrev pub largest_reach : ℕ
largest_reach = largest_price + largest_half_move * most_shifts

abbrev pub reach : ℕ → ℕ
reach most = largest_reach - largest_half_move * most

-- the factors, up to the cap on the exponent (`factors_in`)
abbrev pub largest_factor : ℕ
largest_factor = 1_650_000_000

abbrev pub least_factor : ℕ
least_factor = 606_000_000

-- of a market bound, centre and half-width together, and of an interest bound and what lies inside of it
abbrev pub largest_market_bound : ℕ
largest_market_bound = 2 * largest_reach

abbrev pub largest_bound : ℕ
largest_bound = largest_market_bound * largest_factor / 1_000_000_000

-- ---- how far from 0 a limit may lie where pressure is judged: up to here the products fit 64 bits. No contract's limit goes beyond the largest bound.
abbrev pub largest_limit : ℕ
largest_limit = 1_000_000_000_000

-- ---- a line
pub record FactorsIn (f : Factors) : Type 0 where
  pub up : Between 1_000_000_000 largest_factor f.up.0
  pub down : Between least_factor 1_000_000_000 f.down.0

pub record TermsIn (t : Terms) : Type 0 where
  pub id : 0 < t.id
  pub flags : t.flags < 4
  pub halfmove : Span (pos 1) (pos largest_half_move) t.halfmove.0
  pub factors : FactorsIn t.factors

pub record MarketIn (m : Market) : Type 0 where
  pub centre : Within largest_price m.centre.0
  pub half1 : Span (pos 1) (pos largest_price) m.half1.0
  pub half2 : Span (pos 1) (pos largest_price) m.half2.0
  pub half3 : Span (pos 1) (pos largest_price) m.half3.0

-- The floor of one step: nothing stands below it where negative prices are not permitted, and what is frozen stands there.
pub record Floor (k : Limits) (flags : ℕ) : Type 0 where
  pub least : permits_negative flags ≡ false → pos 1 ≤ℤ k.lower.0
  pub frozen_at : k.frozen ≡ true → k.lower.0 ≡ pos 1
  pub frozen_by : k.frozen ≡ true → permits_negative flags ≡ false

-- Both limits lie between the interest bounds, and the centre between the limits.
pub record LimitsIn (t : Terms) (m : Market) (k : Limits) : Type 0 where
  pub upper : k.upper.0 ≤ℤ (bound Up t.factors m)
  pub lower : (bound Down t.factors m) ≤ℤ k.lower.0
  pub over_centre : m.centre.0 ≤ℤ k.upper.0
  pub under_centre : k.lower.0 ≤ℤ m.centre.0
  pub floor : Floor k t.flags

-- a line as it opens
pub record LineIn (l : Line) : Type 0 where
  pub terms : TermsIn l.terms
  pub market : MarketIn l.market
  pub limits : LimitsIn l.terms l.market l.limits
  pub book : l.book ≡ empty_book
  pub holds : l.holds ≡ no_holds

pub record OpeningIn (s : State) : Type 0 where
  pub count : Between 1 most_contracts (length s.lines)
  pub lines : Every LineIn s.lines
  pub clock : s.clock ≡ seconds 0
  pub end : Between 1 longest_session s.end.0
  pub hold : Between 1 longest_hold s.hold.0
  pub left : most_left s ≤ most_shifts
  pub near : Between 1 largest_near_share s.near.0

-- ---- a line while `most` shifts may still be made in all; room for more of them is room for fewer (`room_fewer`)
pub record MarketRoom (most : ℕ) (m : Market) : Type 0 where
  pub centre : Within (reach most) m.centre.0
  pub half1 : Span (pos 1) (pos (reach most)) m.half1.0
  pub half2 : Span (pos 1) (pos (reach most)) m.half2.0
  pub half3 : Span (pos 1) (pos (reach most)) m.half3.0

pub record LimitsRoom (t : Terms) (m : Market) (k : Limits) : Type 0 where
  pub upper : k.upper.0 ≤ℤ (bound Up t.factors m)
  pub lower : (bound Down t.factors m) ≤ℤ k.lower.0
  pub ordered : k.lower.0 ≤ℤ k.upper.0
  pub floor : Floor k t.flags

unfoldable pub PriceIn : Price → Type 0
PriceIn None = Unit {0}
PriceIn (Some p) = Within largest_quote p.0

pub record BookIn (b : Book) : Type 0 where
  pub bid : PriceIn b.bid
  pub ask : PriceIn b.ask

-- a hold starts no later than the longest session ends
unfoldable pub HoldIn : Hold → Type 0
HoldIn None = Unit {0}
HoldIn (Some start) = start.0 ≤ longest_session

pub record HoldsIn (h : Holds) : Type 0 where
  pub up : HoldIn h.up
  pub down : HoldIn h.down

pub record Room (most : ℕ) (l : Line) : Type 0 where
  pub terms : TermsIn l.terms
  pub market : MarketRoom most l.market
  pub limits : LimitsRoom l.terms l.market l.limits
  pub book : BookIn l.book
  pub holds : HoldsIn l.holds

-- ---- a state, and an event
pub record Sane (s : State) : Type 0 where
  pub hold : Between 1 longest_hold s.hold.0
  pub end : s.end.0 ≤ longest_session
  pub clock : s.clock.0 ≤ s.end.0
  pub left : most_left s ≤ most_shifts
  pub near : Between 1 largest_near_share s.near.0
  pub rooms : Every (Room (most_left s)) s.lines

unfoldable pub EventIn : ReadEvent → Type 0
EventIn (Err why) = Unit {0}
EventIn (Ok (Tick t)) = Unit {0}
EventIn (Ok (Quoted q)) = PriceIn q.bid × PriceIn q.ask
