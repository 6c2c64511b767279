-- One contract: what its opening asks, from the table's ranges. Assumes nothing.
use mathlib.Core.Path.{◌≡◌}
use Prim.Native.Nat.{ℕ, ◌≤◌}
use lib.Dec.{lit≤}
use Rattle.numbers.proofs.Ranges.{within_more}
use Rattle.method.specs.words.Ranges.{ContractIn}
use Rattle.method.specs.words.Growth.{most_exponent}
use Rattle.method.specs.words.Opening.{terms_of, market_of}
use Rattle.method.specs.computed.Rooms.{FactorsIn}
use Rattle.method.proofs.Growth.{factors_in}
use Rattle.method.proofs.Opening.{market_in}
use Rattle.method.proofs.Rooms.{span_within}
use Rattle.bounds.specs.Asks.{Drawn}
use Rattle.table_line.specs.Asks.{Spanned}
use Rattle.table.specs.Names.{Millionths, Contract, Field, Terms, Market}

terms-factors : (shift : Millionths) (y : ℕ) (c : Contract) → y ≤ most_exponent → FactorsIn (terms_of shift y c).factors
unfolding terms_of
terms-factors shift y c h = let f = factors_in y h in record { up = f.0; down = f.1 }

market-drawn : (shift : Millionths) (y : ℕ) (c : Contract) → y ≤ most_exponent → ContractIn c → Drawn (terms_of shift y c).factors (market_of c)
market-drawn shift y c h r =
    let m = market_in c r in
    record {
      factors = terms-factors shift y c h;
      centre = within_more m.centre (lit≤ tt);
      half1 = within_more (span_within m.half1) (lit≤ tt);
    }

pub line_spanned : (shift : Millionths) (y : ℕ) (c : Contract) (t : Terms) (m : Market) → y ≤ most_exponent → ContractIn c → t ≡ terms_of shift y c
    → m ≡ market_of c → Spanned c.width t.factors m
line_spanned shift y c t m h r et em = rw (et, em) (record { drawn = market-drawn shift y c h r; share = r Field.Width })
