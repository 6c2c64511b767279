-- The ranges of every number of an opened line. Assumes nothing.
use Rattle.std.specs.Prelude.{Ok, Err}
use mathlib.Core.Path.{◌≡◌, refl, subst}
use mathlib.Core.Bool.{Bool, true, false, cond}
use mathlib.Core.List.{List}
use Prim.Native.Nat.{ℕ, ◌*◌, ◌≤◌, ◌<◌}
use native.Mathlib.Nat.{mul-le-mul}
use native.Mathlib.Omega.{arith}
use lib.Dec.{leb}
use lib.IntN.{ℤ, pos, negsuc, nat_abs, ◌*ℤ◌, *ℤ_comm}
use lib.Signed.{lt_z, le_z, ◌≤ℤ◌}
use borrow.Author.Tests.{ltb-true, leb-true}
use Rattle.numbers.specs.Ranges.{Between, Span}
use Rattle.numbers.proofs.Halves.{zarith, apart, abs_is}
use Rattle.numbers.proofs.Linear.{≤ℤ_trans}
use Rattle.numbers.proofs.Rounding.{floor_mono, ceiling_mono}
use Rattle.numbers.proofs.Tests.{both, lt-false, le-true}
use Rattle.method.specs.words.Types.{Steps, Millionths, Key, Contract, Line, Field, TableReason}
use Rattle.method.specs.words.Ranges.{whole, largest_price, ContractIn}
use Rattle.method.specs.words.Growth.{rate_at, exponent, most_exponent}
use Rattle.method.specs.words.Opening.{normal_price, half_width, market_of, half_move, terms_of, corridor, fresh_line}
use Rattle.method.specs.computed.Types.{LineAnswer}
use Rattle.method.specs.computed.Opening.{fields_answer, if_fields_good, id_good, inside_bounds, opened_with, open_line}
use Rattle.method.specs.computed.Rooms.{largest_half_move, MarketIn, LineIn}
use Rattle.method.proofs.Demands.{met_by}
use Rattle.method.proofs.Fields.{by_fields}
use Rattle.method.proofs.Growth.{factors_in}
use Rattle.method.proofs.Corridor.{corridor_in}

-- ---- a product of a number and a natural one, both in their ranges
pub product_in : (z : ℤ) (n j k : ℕ) → Span (pos 1) (pos j) z → Between 1 k n → Span (pos 1) (pos (j * k)) (z *ℤ pos n)
product_in (pos m) n j k r s = record { least = omega (zarith, mul-le-mul (positive r.least) s.least); most = omega (zarith, mul-le-mul (most r.most) s.most) }
  where
    positive : pos 1 ≤ℤ pos m → 1 ≤ m
    positive h = omega zarith

    most : pos m ≤ℤ pos j → m ≤ j
    most h = omega zarith
product_in (negsuc m) n j k r s = absurd r.least.le

-- ---- the half-widths
pub normal_in : (c : Contract) → ContractIn c → Span (pos 1) (pos largest_price) (normal_price c)
unfolding normal_price
normal_in c r = go (lt_z (pos (nat_abs c.spot.0)) c.least.0) refl
  where
    go : (b : Bool) → lt_z (pos (nat_abs c.spot.0)) c.least.0 ≡ b → Span (pos 1) (pos largest_price) (cond b c.least.0 (pos (nat_abs c.spot.0)))
    go true e = r Field.Least
    go false e =
        let h = lt-false (pos (nat_abs c.spot.0)) c.least.0 e in
        record { least = omega (zarith, (r Field.Least).least); most = omega (zarith, abs_is c.spot.0, apart c.spot.0, r Field.Spot) }

pub half_width_in : (c : Contract) (rate : Millionths) → ContractIn c → Between 1 whole rate.0 → Span (pos 1) (pos largest_price) (half_width c rate).0
unfolding half_width
half_width_in c rate r s =
    let p = product_in (normal_price c) rate.0 largest_price whole (normal_in c r) s in
    record { least = ceiling_mono {a = pos 1} whole p.least; most = ceiling_mono {b = pos (largest_price * whole)} whole p.most }

pub market_in : (c : Contract) → ContractIn c → MarketIn (market_of c)
unfolding market_of
market_in c r =
    record {
      centre = (r Field.Price).0;
      half1 = half_width_in c c.rate1 r (r Field.Rate1);
      half2 = half_width_in c c.rate2 r (r Field.Rate2).0;
      half3 = half_width_in c c.rate3 r (r Field.Rate3).0;
    }

-- ---- the half-move
half_move-most : (shift : Millionths) (half1 : Steps) → Between 1 whole shift.0 → Span (pos 1) (pos largest_price) half1.0 → (half_move shift half1).0 ≤ℤ pos largest_half_move
unfolding half_move
half_move-most shift half1 s r =
    floor_mono {a = pos shift.0 *ℤ half1.0} {b = pos (largest_price * whole)} (2 * whole)
    (rw (*ℤ_comm (pos shift.0) half1.0) (product_in half1.0 shift.0 largest_price whole r s).most)

-- ---- the whole line
module _ (shift : Millionths) (y : ℕ) (c : Contract) (s : Between 1 whole shift.0) (r : ContractIn c) where
  line_in : 0 < c.id → y ≤ most_exponent → pos 1 ≤ℤ (terms_of shift y c).halfmove.0 → inside_bounds (terms_of shift y c).factors (market_of c) (corridor c.width (terms_of shift y c).factors (market_of c)) ≡ true
      → LineIn (fresh_line (terms_of shift y c) (market_of c) (corridor c.width (terms_of shift y c).factors (market_of c)))
  unfolding fresh_line terms_of
  line_in id cap moves inside =
      let f = factors_in y cap in
      let m = market_in c r in
      record {
        terms =
            record {
              id = id;
              flags = r Field.Flags;
              halfmove = record { least = moves; most = half_move-most shift (half_width c c.rate1) s (half_width_in c c.rate1 r (r Field.Rate1)) };
              factors = record { up = f.0; down = f.1 };
            };
        market = m;
        limits =
            corridor_in c.width (terms_of shift y c) (market_of c) (record { up = f.0; down = f.1 }) (≤ℤ_trans (omega zarith) m.half1.least)
            (unfold market_of in (r Field.Price).1) inside;
        book = refl;
        holds = refl;
      }

not_opened : {why : TableReason} {l : Line} → Err why ≡ Ok l → ⊥
not_opened e = let z : ◌≡◌ {A = ℕ} 0 1 = cc in omega arith

fields_met : (c : Contract) {onward : LineAnswer} {l : Line} → if_fields_good (fields_answer c) onward ≡ Ok l
    → ContractIn c × (onward ≡ Ok l)
fields_met c {onward} {l} =
    by_fields c (λ a. a ≡ Ok l → ContractIn c × (onward ≡ Ok l)) (λ r e. (r, e))
    (λ before f rest p r n e. absurd (not_opened e))

same_line : {k l : Line} → ◌≡◌ {A = LineAnswer} (Ok k) (Ok l) → k ≡ l
same_line e = cc

pub open_line_in : (shift : Millionths) (keys : List Key) (earlier : List Line) (c : Contract) (l : Line) → Between 1 whole shift.0
    → open_line shift keys earlier c ≡ Ok l → LineIn l
unfolding open_line opened_with id_good
open_line_in shift keys earlier c l s e =
    let fields = fields_met c e in
    let id = met_by (id_good earlier c.id) not_opened fields.1 in
    let y = exponent (rate_at keys c.days) c.days in
    let cap = met_by (leb y most_exponent) not_opened id.1 in
    let moves = met_by (le_z (pos 1) (terms_of shift y c).halfmove.0) not_opened cap.1 in
    let inside = met_by (inside_bounds (terms_of shift y c).factors (market_of c) (corridor c.width (terms_of shift y c).factors (market_of c))) not_opened moves.1 in
    subst LineIn (same_line inside.1)
    (line_in shift y c s fields.0 (ltb-true 0 c.id (both _ _ id.0).0) (leb-true y most_exponent cap.0)
    (le-true (pos 1) (terms_of shift y c).halfmove.0 moves.0) inside.0)
