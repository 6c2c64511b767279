-- The loop over the contract lines: what holds while some of them are opened. Assumes nothing.
use mathlib.Core.Path.{◌≡◌, refl, sym, ap, ◌∙◌}
use mathlib.Core.List.{List, [], ◌∷◌, ◌++◌}
use Prim.Native.Nat.{ℕ, suc, ◌+◌, ◌-◌, ◌*◌, ◌<◌, ◌≤◌}
use native.Mathlib.Numerals.{add-one}
use native.Mathlib.Omega.{arith}
use lib.ListN.{length, take, drop, length-append, length-drop}
use lib.Seq.{length-take-le}
use Rattle.std.specs.Prelude.{Result, Ok, Err, MatchResult, IsErrAnd}
use Rattle.std.proofs.lemmas.List.{take-append-drop}
use Rattle.method.specs.words.Layout.{contract_at, contracts_at}
use Rattle.method.specs.words.Tables.{opened, refused, opening_state}
use Rattle.method.specs.computed.Types.{LineAnswer}
use Rattle.method.specs.computed.Opening.{open_line}
use Rattle.method.specs.computed.Table.{open_lines}
use Rattle.table_records.proofs.Reading.{contract-before, contracts-before, contracts-after}
use Rattle.table.specs.Names.{Header, Key, Contract, Line, TableReason, TableRefusal}
use Rattle.table.specs.Opened.{refusal, opened_as}

-- the lines so far, and the contracts in the bytes that are left
pub record Opening-lines (h : Header) (keys : List Key) (cs : List Contract) (count : ℕ) (lines : List Line) (rest : List ℕ) : Type 0 where
  pub more : ℕ
  pub so_far : length lines + more ≡ count
  pub size : length rest ≡ 40 * more
  pub onward : open_lines h keys (suc (length lines)) lines (contracts_at rest 0 more) ≡ open_lines h keys 1 [] cs

pub lines_start : (b : List ℕ) (h : Header) (keys : List Key) (start count : ℕ) (part : List ℕ) → start + 40 * count ≤ length b
    → part ≡ take (40 * count) (drop start b) → Opening-lines h keys (contracts_at b start count) count [] part
lines_start b h keys start count part e p =
    record {
      more = count;
      so_far = omega arith;
      size = ap length p ∙ long;
      onward = ap (λ (cs : List Contract). open_lines h keys 1 [] cs) (ap (λ (x : List ℕ). contracts_at x 0 count) p ∙ same);
    }
  where
    front : start ≡ length (take start b) + 0
    front = rw (length-take-le start b (omega arith)) (omega arith)

    long : length (take (40 * count) (drop start b)) ≡ 40 * count
    long = length-take-le (40 * count) (drop start b) (rw (length-drop start b) (omega arith))

    same : contracts_at (take (40 * count) (drop start b)) 0 count ≡ contracts_at b start count
    same =
        sym (contracts-before (take (40 * count) (drop start b)) (drop (40 * count) (drop start b)) 0 count (omega (arith, long)))
        ∙ ap (λ (x : List ℕ). contracts_at x 0 count) (take-append-drop (40 * count) (drop start b))
        ∙ sym (contracts-after (take start b) (drop start b) start 0 count front)
        ∙ ap (λ (x : List ℕ). contracts_at x start count) (take-append-drop start b)

-- one contract read, the bytes later than it, and what it opens
module _ (h : Header) (keys : List Key) (cs : List Contract) (count : ℕ) (lines : List Line) (rest : List ℕ) (o : Opening-lines h keys cs count lines rest)
    (first later : List ℕ) (e : rest ≡ first ++ later) (size : length first ≡ 40) (a : LineAnswer)
    (ea : a ≡ open_line h.shift keys lines (contract_at first 0)) where
  one-less : o.more ≡ suc (o.more - 1)
  one-less = omega (arith, o.size, ap length e, length-append first later)

  next : contracts_at rest 0 o.more ≡ contract_at first 0 ∷ contracts_at later 0 (o.more - 1)
  unfolding contracts_at
  next =
      ap (λ (m : ℕ). contracts_at rest 0 m) one-less
      ∙ ap (λ (x : List ℕ). contracts_at x 0 (suc (o.more - 1))) e
      ∙ ap (λ (c : Contract). c ∷ contracts_at (first ++ later) 40 (o.more - 1)) (contract-before first later 0 (omega arith))
      ∙ ap (λ (more : List Contract). contract_at first 0 ∷ more) (contracts-after first later 40 0 (o.more - 1) (omega arith))

  pub lines-refused : (why : TableReason) → a ≡ Err why → Err (refusal why (length lines + 1)) ≡ opened_as (open_lines h keys 1 [] cs)
  unfolding opened_as
  lines-refused why q = rw (add-one (length lines)) (ap opened_as (sym stop ∙ o.onward))
    where
      stop : open_lines h keys (suc (length lines)) lines (contracts_at rest 0 o.more) ≡ refused why (suc (length lines))
      stop = unfold open_lines in rw (next, sym ea ∙ q)

  pub lines_turn : (l : Line) → a ≡ Ok l → Opening-lines h keys cs count (lines ++ (l ∷ [])) later
  lines_turn l q =
      record {
        more = o.more - 1;
        so_far = rw after (omega (arith, o.so_far, one-less));
        size = omega (arith, o.size, ap length e, length-append first later);
        onward = ap (λ (n : ℕ). open_lines h keys (suc n) (lines ++ (l ∷ [])) (contracts_at later 0 (o.more - 1))) after ∙ sym on ∙ o.onward;
      }
    where
      after : length (lines ++ (l ∷ [])) ≡ suc (length lines)
      after = length-append lines (l ∷ []) ∙ omega arith

      on : open_lines h keys (suc (length lines)) lines (contracts_at rest 0 o.more)
          ≡ open_lines h keys (suc (suc (length lines))) (lines ++ (l ∷ [])) (contracts_at later 0 (o.more - 1))
      on = unfold open_lines in rw (next, sym ea ∙ q)

-- every line is opened
pub lines_all : (h : Header) (keys : List Key) (cs : List Contract) (count : ℕ) (lines : List Line) (rest : List ℕ)
    → Opening-lines h keys cs count lines rest → length rest < 40 → opened (opening_state h lines) ≡ open_lines h keys 1 [] cs
unfolding contracts_at open_lines
lines_all h keys cs count lines rest o g =
    ap (λ (m : ℕ). open_lines h keys (suc (length lines)) lines (contracts_at rest 0 m)) (sym none) ∙ o.onward
  where
    none : o.more ≡ 0
    none = omega (arith, o.size)

-- ---- a contract's answer r with its line n, made of its answer a
module _ (P : TableReason → TableRefusal → Type 0) (a : LineAnswer) (r : Result Line TableRefusal)
    (m : MatchResult a (λ (l : Line). r ≡ Ok l) (λ (why : TableReason). IsErrAnd r (P why))) where
  pub line_opened : (l : Line) → r ≡ Ok l → a ≡ Ok l
  line_opened l e = go a m
    where
      go : (a : LineAnswer) → MatchResult a (λ (l : Line). r ≡ Ok l) (λ (why : TableReason). IsErrAnd r (P why)) → a ≡ Ok l
      go (Ok k) m = ap Ok (let z : ◌≡◌ {A = Result Line TableRefusal} (Ok k) (Ok l) = sym m ∙ e in cc)
      go (Err why) m = absurd (rw e at m)

  pub line_refused : (n : ℕ) → ((why : TableReason) (w : TableRefusal) → P why w → w ≡ refusal why n) → (w : TableRefusal) → r ≡ Err w
      → (why : TableReason) × (a ≡ Err why) × (w ≡ refusal why n)
  line_refused n told w e = go a m
    where
      go : (a : LineAnswer) → MatchResult a (λ (l : Line). r ≡ Ok l) (λ (why : TableReason). IsErrAnd r (P why))
          → (why : TableReason) × (a ≡ Err why) × (w ≡ refusal why n)
      go (Ok l) m = let z : ◌≡◌ {A = Result Line TableRefusal} (Ok l) (Err w) = sym m ∙ e in absurd (cc)
      go (Err why) m = (why, refl, told why w (rw e at m))
