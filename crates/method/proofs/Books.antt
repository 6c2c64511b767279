-- What becomes of the books: a shift leaves them, a quote replaces one. An accepted table's ids differ, so it is one line's. Assumes nothing.
use Rattle.std.specs.Prelude.{Ok}
use mathlib.Core.Path.{◌≡◌, refl, sym, ap, ◌∙◌, subst}
use mathlib.Core.Bool.{Bool, true, false, cond, true≢false, false≢true}
use mathlib.Core.List.{List, [], ◌∷◌, ◌++◌, map, append_assoc}
use Prim.Native.Nat.{ℕ, ◌-◌}
use native.Mathlib.Omega.{arith}
use lib.Dec.{eqb}
use lib.IntN.{ℤ}
use borrow.Author.Tests.{eqb-true, eqb-false}
use Rattle.method.specs.words.Types.{Millionths, Key, Contract, Line, ShiftLine, State, seconds}
use Rattle.method.specs.words.Wire.{word, signed, bit}
use Rattle.method.specs.words.Ranges.{Every}
use Rattle.method.specs.words.Opening.{terms_of, fresh_line}
use Rattle.method.specs.words.Tables.{opened, opening_state, its_line, GoodAll, TableAnswered, all_good}
use Rattle.method.specs.words.Events.{IsQuote, EventAnswered, tick_taken, quote_taken}
use Rattle.method.specs.words.Books.{PriceSaid, Quotes, BookLife}
use Rattle.method.specs.words.Shifts.{Each}
use Rattle.method.specs.words.Sessions.{accepted}
use Rattle.method.specs.computed.Opening.{ids}
use Rattle.method.specs.computed.Table.{opening}
use Rattle.method.specs.computed.Judge.{judge_line}
use Rattle.method.specs.computed.Shift.{moved_line, shift_line, shifted, onward, after}
use Rattle.method.specs.computed.Event.{price_of, read, verdict, quoted_line, quoted, applied, next}
use Rattle.method.specs.computed.Relation.{time}
use Rattle.method.specs.computed.Sound.{Distinct}
use Rattle.method.proofs.Every.{every_all, every_middle}
use Rattle.method.proofs.Each.{each_same, each_map, each_weaker}
use Rattle.method.proofs.TableAnswered.{table_answered}
use Rattle.method.proofs.EventAnswered.{the_quote, read_tick-is, read_quote-is, event_answered}

-- ---- the ids of an accepted table differ
module _ (shift : Millionths) (keys : List Key) where
  -- no contract after c has its id
  none_again : (xs : List Contract) (c : Contract) (ys cs : List Contract) → GoodAll shift keys (xs ++ c ∷ ys) cs
      → Every (λ j. j ≡ c.id → ⊥) (ids (map (its_line shift keys) cs))
  unfolding GoodAll Every fresh_line terms_of
  none_again xs c ys [] g = tt
  none_again xs c ys (d ∷ cs) g = (
    λ e. every_middle (λ x. x.id ≡ d.id → ⊥) xs c ys g.0.id.new (sym e),
    none_again xs c (ys ++ (d ∷ [])) cs (subst (λ (es : List Contract). GoodAll shift keys es cs) (append_assoc xs (c ∷ ys) (d ∷ [])) g.1),
  )

  good-distinct : (xs cs : List Contract) → GoodAll shift keys xs cs → Distinct (ids (map (its_line shift keys) cs))
  unfolding GoodAll Distinct fresh_line terms_of
  good-distinct xs [] g = tt
  good-distinct xs (c ∷ cs) g = (none_again xs c [] cs g.1, good-distinct (xs ++ (c ∷ [])) cs g.1)

pub distinct-opening : (table : List ℕ) (o : State) → opening table ≡ opened o → Distinct (ids o.lines)
unfolding opening_state
distinct-opening table o e = go o (subst (TableAnswered table) e (table_answered table))
  where
    go : (s : State) → TableAnswered table (opened s) → Distinct (ids s.lines)
    go s (all_good f k g) = good-distinct _ _ [] _ g

pub same-ids : (R : Line → Line → Type 0) → ((o l : Line) → R o l → l.terms ≡ o.terms) → (os ls : List Line) → Each R os ls → ids os ≡ ids ls
unfolding Each
same-ids R h [] [] rs = refl
same-ids R h [] (l ∷ ls) rs = absurd rs
same-ids R h (o ∷ os) [] rs = absurd rs
same-ids R h (o ∷ os) (l ∷ ls) rs =
    let head : o.terms.id ≡ l.terms.id = rw (h o l rs.0) in
    let tail = same-ids R h os ls rs.1 in
    cc

-- ---- a shift leaves terms and book of every line
pub record SameBook (l n : Line) : Type 0 where
  pub terms : n.terms ≡ l.terms
  pub book : n.book ≡ l.book

pub each_same_book : (ls : List Line) → Each SameBook ls ls
each_same_book ls = each_same (λ l. Unit {0}) SameBook (λ l p. record { terms = refl; book = refl }) ls (every_all _ (λ l. tt) ls)

-- the lines os, alike to those of a state, are alike to those of the shifted state
same_book_once_more : (os : List Line) (s : State) (c : ShiftLine) → Each SameBook os s.lines → Each SameBook os (onward s c).lines
unfolding shifted shift_line judge_line moved_line
same_book_once_more os s c rs =
    each_map (λ l. Unit {0}) SameBook SameBook (shift_line s.near (s.left - 1) c.side c.second)
    (λ o l p a. record { terms = a.terms; book = a.book }) os s.lines (every_all _ (λ l. tt) s.lines) rs

pub same_book_onward : (s : State) (c : ShiftLine) → Each SameBook s.lines (onward s c).lines
same_book_onward s c = same_book_once_more s.lines s c (each_same_book s.lines)

pub same_book_after : (os : List Line) (cs : List ShiftLine) (s : State) → Each SameBook os s.lines → Each SameBook os (after cs s).lines
unfolding after
same_book_after os [] s rs = rs
same_book_after os (c ∷ cs) s rs = same_book_after os cs (onward s c) (same_book_once_more os s c rs)

-- ---- a quote
price-said : (present : Bool) (z : ℤ) → PriceSaid present z (price_of present z)
price-said true z = record { given = λ e. refl; absent = λ e. absurd (true≢false e) }
price-said false z = record { given = λ e. absurd (false≢true e); absent = λ e. refl }

untouched : (b : List ℕ) (l n : Line) → (Quotes b l → ⊥) → SameBook l n → BookLife b l n
untouched b l n other a = record { replaced = λ q. absurd (other q); stays = λ z. a.book }

-- lines whose id is not the quote's
others : (b : List ℕ) (os ls : List Line) → Every (λ j. j ≡ word b 4 → ⊥) (ids ls) → Each SameBook os ls → Each (BookLife b) os ls
unfolding Each Every
others b [] [] ps rs = tt
others b [] (l ∷ ls) ps rs = rs
others b (o ∷ os) [] ps rs = rs
others b (o ∷ os) (l ∷ ls) ps rs = (untouched b o l (λ q. ps.0 (ap (λ t. t.id) rs.0.terms ∙ q.id)) rs.0, others b os ls ps.1 rs.1)

module _ (near : Millionths) (left : ℕ) (b : List ℕ) (quote : IsQuote b) where
  pub quoted-book : (o l : Line) → o.terms.id ≡ word b 4 → BookLife b o (quoted_line near left (the_quote b) l)
  unfolding quoted_line judge_line
  quoted-book o l e =
      record {
        replaced = λ q. record { bid = price-said (bit 0 (word b 8)) (signed (word b 12)); ask = price-said (bit 1 (word b 8)) (signed (word b 16)) };
        stays = λ other. absurd (other (record { quote = quote; id = e }));
      }

  quoted-books : (os ls : List Line) → Distinct (ids ls) → Each SameBook os ls → Each (BookLife b) os (quoted near left (the_quote b) ls)
  unfolding Each Distinct quoted
  quoted-books [] [] ps rs = tt
  quoted-books [] (l ∷ ls) ps rs = absurd rs
  quoted-books (o ∷ os) [] ps rs = rs
  quoted-books (o ∷ os) (l ∷ ls) ps rs = go (eqb l.terms.id (word b 4)) refl (quoted-books os ls ps.1 rs.1)
    where
      same : l.terms.id ≡ o.terms.id
      same = ap (λ t. t.id) rs.0.terms

      go : (mine : Bool) → eqb l.terms.id (word b 4) ≡ mine → Each (BookLife b) os (quoted near left (the_quote b) ls)
          → Each (BookLife b) (o ∷ os) (cond mine (quoted_line near left (the_quote b) l ∷ ls) (l ∷ quoted near left (the_quote b) ls))
      go true e more =
          let its : l.terms.id ≡ word b 4 = eqb-true _ _ e in
          (quoted-book o l (sym same ∙ its), others b os ls (rw its at ps.0) rs.1)
      go false e more = (untouched b o l (λ q. eqb-false _ _ e (same ∙ q.id)) rs.0, more)

-- ---- an accepted event
module _ (s : State) (b : List ℕ) where
  taken : verdict s (read b) ≡ Ok tt → EventAnswered s b (Ok tt)
  taken v = subst (EventAnswered s b) v (event_answered s b)

  pub books-over : (cs : List ShiftLine) → Distinct (ids s.lines) → verdict s (read b) ≡ Ok tt
      → Each (BookLife b) s.lines (next s (read b) (accepted cs)).lines
  unfolding next applied
  books-over cs ps v = go (taken v)
    where
      rs : Each SameBook s.lines (after cs s).lines
      rs = same_book_after s.lines cs s (each_same_book s.lines)

      go : EventAnswered s b (Ok tt) → Each (BookLife b) s.lines (applied (read b) (after cs s)).lines
      go (tick_taken t i) =
          rw (read_tick-is s b t)
          (each_weaker SameBook (BookLife b) (λ o l a. untouched b o l (λ q. omega (arith, t.flags, q.quote.like.flags)) a) s.lines (after cs s).lines rs)
      go (quote_taken q i k c) =
          rw (read_quote-is s b q)
          (quoted-books (after cs s).near (after cs s).left b q s.lines (after cs s).lines
          (subst Distinct (same-ids SameBook (λ o l a. a.terms) s.lines (after cs s).lines rs) ps) rs)

  pub accepted-time : verdict s (read b) ≡ Ok tt → time (read b) ≡ seconds (word b 0)
  accepted-time v = go (taken v)
    where
      go : EventAnswered s b (Ok tt) → time (read b) ≡ seconds (word b 0)
      go (tick_taken t i) = rw (read_tick-is s b t)
      go (quote_taken q i k c) = rw (read_quote-is s b q)
