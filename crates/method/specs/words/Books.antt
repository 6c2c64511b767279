-- What an event makes of a book (METHOD 12).
use Rattle.std.specs.Prelude.{Bool, true, false, List, ◌≡◌, ℕ, ℤ, None, Some}
use Rattle.method.specs.words.Types.{Price, Book, Line, steps}
use Rattle.method.specs.words.Wire.{word, signed, bit}
use Rattle.method.specs.words.Events.{IsQuote}

-- the standing price that a price field says: there where its flag says present, and else absent
pub record PriceSaid (present : Bool) (z : ℤ) (p : Price) : Type 0 where
  pub given : present ≡ true → p ≡ Some (steps z)
  pub absent : present ≡ false → p ≡ None

pub record BookSaid (b : List ℕ) (k : Book) : Type 0 where
  pub bid : PriceSaid (bit 0 (word b 8)) (signed (word b 12)) k.bid
  pub ask : PriceSaid (bit 1 (word b 8)) (signed (word b 16)) k.ask

-- b is a quote of the line
pub record Quotes (b : List ℕ) (l : Line) : Type 0 where
  pub quote : IsQuote b
  pub id : l.terms.id ≡ word b 4

-- From the line l before the accepted event b to the same line n after it: a quote of the line sets both prices, and a tick or a quote of
-- another line neither (METHOD 12.4, 12.6).
pub record BookLife (b : List ℕ) (l n : Line) : Type 0 where
  pub replaced : Quotes b l → BookSaid b n.book
  pub stays : (Quotes b l → ⊥) → n.book ≡ l.book
