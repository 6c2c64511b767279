-- An event that tells nothing new, a tick or a quote that repeats the standing one, sets the clock and changes nothing else. Assumes nothing.
use Rattle.std.specs.Prelude.{Ok, Err}
use mathlib.Core.Path.{◌≡◌, refl, sym, ap, ◌∙◌}
use mathlib.Core.Bool.{Bool, true, false, cond}
use mathlib.Core.List.{List, [], ◌∷◌}
use Prim.Native.Nat.{ℕ, ◌-◌}
use lib.Dec.{eqb}
use lib.IntN.{ℤ}
use borrow.Author.Tests.{eqb-true}
use Rattle.method.specs.words.Types.{Millionths, Price, Book, Line, ShiftLine, State}
use Rattle.method.specs.words.Ranges.{Every}
use Rattle.method.specs.words.Books.{PriceSaid, BookSaid}
use Rattle.method.specs.laws.Ticks.{NothingNew, tick, repeat}
use Rattle.method.specs.computed.Types.{Quote, ReadEvent, Tick, Quoted}
use Rattle.method.specs.computed.Judge.{judge_line}
use Rattle.method.specs.computed.Shift.{moved_line, shift_line, shifted, onward, after}
use Rattle.method.specs.computed.Event.{price_of, read, screened, verdict, with_book, quoted_line, quoted, applied}
use Rattle.method.specs.computed.Relation.{time}
use Rattle.method.specs.computed.Sound.{Exact}
use Rattle.method.proofs.Every.{every_map, every_weaker}
use Rattle.method.proofs.Exact.{judge_line-same}
use Rattle.method.proofs.Events.{not-accepted}
use Rattle.method.proofs.HoldLife.{Judged}
use Rattle.method.proofs.EventAnswered.{the_quote, read_tick-is, read_quote-is}
use Rattle.method.proofs.Clock.{at-clock}

-- ---- over what an event says
abbrev book_of : Quote → Book
book_of q = record { bid = q.bid; ask = q.ask }

-- the line, if it is the quote's, has the quote's book
abbrev SaidBefore : Quote → Line → Type 0
SaidBefore q l = l.terms.id ≡ q.id → l.book ≡ book_of q

unfoldable pub Still : State → ReadEvent → Type 0
Still s (Err why) = Unit {0}
Still s (Ok (Tick t)) = Unit {0}
Still s (Ok (Quoted q)) = Every (SaidBefore q) s.lines

price-is : (present : Bool) (z : ℤ) (p : Price) → PriceSaid present z p → p ≡ price_of present z
price-is true z p r = r.given refl
price-is false z p r = r.absent refl

book-is : (b : List ℕ) (k : Book) → BookSaid b k → k ≡ book_of (the_quote b)
book-is b k r = λ i. record { bid = price-is _ _ _ r.bid i; ask = price-is _ _ _ r.ask i }

pub still_read : (s : State) (b : List ℕ) → NothingNew s b → Still s (read b)
unfolding Still
still_read s b (tick t) = rw (read_tick-is s b t) tt
still_read s b (repeat r) =
    rw (read_quote-is s b r.quote) (every_weaker _ (SaidBefore (the_quote b)) (λ l h e. book-is b l.book (h e)) s.lines r.standing)

-- ---- a shift changes no id and no book
still_onward : (e : ReadEvent) (s : State) (c : ShiftLine) → Still s e → Still (onward s c) e
unfolding Still shifted shift_line judge_line moved_line
still_onward (Err why) s c h = tt
still_onward (Ok (Tick t)) s c h = tt
still_onward (Ok (Quoted q)) s c h =
    every_map (SaidBefore q) (SaidBefore q) (shift_line s.near (s.left - 1) c.side c.second) (λ l k. k) s.lines h

pub still_after : (e : ReadEvent) (cs : List ShiftLine) (s : State) → Still s e → Still (after cs s) e
unfolding after
still_after e [] s h = h
still_after e (c ∷ cs) s h = still_after e cs (onward s c) (still_onward e s c h)

-- ---- the quote
module _ (near : Millionths) (left : ℕ) (q : Quote) where
  line_same : (l : Line) → Exact near left l → l.book ≡ book_of q → quoted_line near left q l ≡ l
  unfolding quoted_line
  line_same l x e = ap (judge_line near left q.time) book ∙ judge_line-same near left q.time l x
    where
      book : with_book l q.bid q.ask ≡ l
      book = λ i. record { terms = l.terms; market = l.market; limits = l.limits; book = sym e i; holds = l.holds }

  quoted-same : (ls : List Line) → Every (Exact near left) ls → Every (SaidBefore q) ls → quoted near left q ls ≡ ls
  unfolding quoted Every
  quoted-same [] xs hs = refl
  quoted-same (l ∷ ls) xs hs = go (eqb l.terms.id q.id) refl (quoted-same ls xs.1 hs.1)
    where
      go : (mine : Bool) → eqb l.terms.id q.id ≡ mine → quoted near left q ls ≡ ls
          → cond mine (quoted_line near left q l ∷ ls) (l ∷ quoted near left q ls) ≡ l ∷ ls
      go true e more = let p = line_same l xs.0 (hs.0 (eqb-true _ _ e)) in cc
      go false e more = cc

pub still_applied : (e : ReadEvent) (s r : State) → verdict r e ≡ Ok tt → Judged s → Still s e → applied e s ≡ at-clock (time e) s
unfolding applied verdict screened Still
still_applied (Err why) s r v x h = absurd (not-accepted v)
still_applied (Ok (Tick t)) s r v x h = refl
still_applied (Ok (Quoted q)) s r v x h = rw (quoted-same s.near s.left q s.lines x h)
