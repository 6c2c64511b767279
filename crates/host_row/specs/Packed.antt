-- A line as a pair of rows of 16 numbers, and the head of a session as one such row. Any numbers read as some line and as some head, so
-- nothing is asked of a row; what stands at the places that are not named here says nothing.
use Rattle.std.specs.Prelude.{Bool, cond, List, [], ℕ, ◌/◌, ◌%◌, eqb, ltb, ℤ, pos, negsuc, get_or, None, Some}
use Rattle.method.specs.words.Types.{steps, millionths, seconds, billionths}
use Rattle.host_row.specs.Names.{Price, Hold, Terms, Market, Limits, Book, Holds, Line, Head}

-- ---- one number
abbrev pub word_in : ℕ → ℕ
word_in n = n % 4_294_967_296

-- no 0, yes any other
unfoldable pub mark_in : ℕ → Bool
mark_in n = ltb 0 n

-- 0, -1, 1, -2, 2 and so on, by turns
unfoldable pub signed_in : ℕ → ℤ
signed_in n = cond (eqb (n % 2) 0) (pos (n / 2)) (negsuc (n / 2))

-- ---- two numbers: whether it is there, and what
unfoldable pub price_in : ℕ → ℕ → Price
price_in there n = cond (mark_in there) (Some (steps (signed_in n))) None

unfoldable pub hold_in : ℕ → ℕ → Hold
hold_in there n = cond (mark_in there) (Some (seconds (word_in n))) None

-- ---- a row
abbrev pub at : List ℕ → ℕ → ℕ
at row k = get_or row k 0

-- what bounds are drawn from
unfoldable pub terms_in : List ℕ → Terms
terms_in r =
    record {
      id = word_in (at r 0);
      flags = word_in (at r 1);
      halfmove = steps (signed_in (at r 2));
      factors = record { up = billionths (at r 3); down = billionths (at r 4) };
    }

unfoldable pub market_in : List ℕ → Market
market_in r =
    record {
      centre = steps (signed_in (at r 5));
      half1 = steps (signed_in (at r 6));
      half2 = steps (signed_in (at r 7));
      half3 = steps (signed_in (at r 8));
    }

-- what pressure is judged on
unfoldable pub limits_in : List ℕ → Limits
limits_in r = record { upper = steps (signed_in (at r 0)); lower = steps (signed_in (at r 1)); frozen = mark_in (at r 2) }

unfoldable pub book_in : List ℕ → Book
book_in r = record { bid = price_in (at r 3) (at r 4); ask = price_in (at r 5) (at r 6) }

unfoldable pub holds_in : List ℕ → Holds
holds_in r = record { up = hold_in (at r 7) (at r 8); down = hold_in (at r 9) (at r 10) }

-- ---- a line's two rows
abbrev pub no_row : List ℕ
no_row = []

abbrev pub drawn_row : List (List ℕ) → List ℕ
drawn_row pair = get_or pair 0 no_row

abbrev pub judged_row : List (List ℕ) → List ℕ
judged_row pair = get_or pair 1 no_row

unfoldable pub line_in : List (List ℕ) → Line
line_in pair =
    record {
      terms = terms_in (drawn_row pair);
      market = market_in (drawn_row pair);
      limits = limits_in (judged_row pair);
      book = book_in (judged_row pair);
      holds = holds_in (judged_row pair);
    }

-- ---- what a session has beside its lines, in a row
unfoldable pub head_in : List ℕ → Head
head_in r =
    record {
      count = at r 0;
      clock = seconds (word_in (at r 1));
      end = seconds (word_in (at r 2));
      hold = seconds (word_in (at r 3));
      left = word_in (at r 4);
      near = millionths (word_in (at r 5));
    }
