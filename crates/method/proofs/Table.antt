-- What an accepted table tells: the ranges of the header, of the keys, and of every opened line. Assumes nothing.
use Rattle.std.specs.Prelude.{Ok, Err, Option, None, Some}
use mathlib.Core.Path.{◌≡◌, refl, ap, subst, ◌∙◌}
use mathlib.Core.Bool.{Bool, true, false, cond}
use mathlib.Core.List.{List, [], ◌∷◌, ◌++◌}
use Prim.Native.Nat.{ℕ, zero, suc, ◌+◌, ◌≤◌}
use native.Mathlib.Omega.{arith}
use lib.Dec.{leb, eqb}
use lib.ListN.{length, length-append}
use borrow.Author.Tests.{leb-true, ltb-true}
use Rattle.numbers.proofs.Tests.{both, in_range-true}
use Rattle.method.specs.words.Types.{Header, Key, Contract, Line, TableReason, State}
use Rattle.method.specs.words.Layout.{header_of, keys_at, contracts_start, contracts_at}
use Rattle.method.specs.words.Ranges.{most_contracts, most_keys, longest_session, longest_hold, most_shifts, largest_near_share, whole, largest_rate, most_days, HeaderIn, KeyIn, KeysIn, Every}
use Rattle.method.specs.words.Tables.{opened, refused, opening_state}
use Rattle.method.specs.computed.Types.{LineAnswer}
use Rattle.method.specs.computed.Opening.{open_line}
use Rattle.method.specs.computed.Table.{header_good, laid_out, key_good, bad_key, if_opened, open_lines, if_keys_good, open_records, opening}
use Rattle.method.specs.computed.Head.{most_left}
use Rattle.method.specs.computed.Rooms.{LineIn, OpeningIn}
use Rattle.method.proofs.Every.{every_last}
use Rattle.method.proofs.Demands.{met_by}
use Rattle.method.proofs.Opening.{open_line_in}
use Rattle.method.proofs.Head.{most-opened}

-- ---- the header
pub header_in : (h : Header) → header_good h ≡ true → HeaderIn h
unfolding header_good
header_in h e =
    let shift = both _ _ e in
    let near = both _ _ shift.0 in
    let most = both _ _ near.0 in
    let hold = both _ _ most.0 in
    let end = both _ _ hold.0 in
    let counts = both _ _ end.0 in
    record {
      contracts = in_range-true 1 most_contracts h.contracts counts.0;
      keys = in_range-true 1 most_keys h.keys counts.1;
      end = in_range-true 1 longest_session h.end.0 end.1;
      hold = in_range-true 1 longest_hold h.hold.0 hold.1;
      most = leb-true h.most most_shifts most.1;
      near = in_range-true 1 largest_near_share h.near.0 near.1;
      shift = in_range-true 1 whole h.shift.0 shift.1;
    }

-- ---- the keys
pub key_in : (before : ℕ) (k : Key) → key_good before k ≡ true → KeyIn before k
unfolding key_good
key_in before k e =
    let rate = both _ _ e in
    let days = both _ _ rate.0 in
    record { days = in_range-true 1 most_days k.days days.0; rising = ltb-true before k.days days.1; rate = leb-true k.rate.0 largest_rate rate.1 }

no_line : {n : ℕ} → ◌≡◌ {A = Option ℕ} (Some n) None → ⊥
no_line e = let z : ◌≡◌ {A = ℕ} 0 1 = cc in omega arith

pub keys_in : (line before : ℕ) (keys : List Key) → bad_key line before keys ≡ None → KeysIn before keys
unfolding bad_key KeysIn
keys_in line before [] e = tt
keys_in line before (k ∷ keys) e = go (key_good before k) refl e (keys_in (suc line) k.days keys)
  where
    go : (b : Bool) → key_good before k ≡ b → cond b (bad_key (suc line) k.days keys) (Some line) ≡ None → (bad_key (suc line) k.days keys ≡ None → KeysIn k.days keys)
        → KeyIn before k × KeysIn k.days keys
    go true q e more = (key_in before k q, more e)
    go false q e more = absurd (no_line e)

-- ---- the lines
pub not_opened : {why : TableReason} {line : ℕ} {s : State} → refused why line ≡ opened s → ⊥
not_opened e = let z : ◌≡◌ {A = ℕ} 0 1 = cc in omega arith

pub same-state : {s r : State} → opened s ≡ opened r → s ≡ r
same-state e = cc

-- the lines of the state are those opened already and one for each contract that is left
record Lines (earlier n : ℕ) (h : Header) (s : State) : Type 0 where
  state : s ≡ opening_state h s.lines
  count : length s.lines ≡ earlier + n
  lines : Every LineIn s.lines

open_lines_in : (h : Header) (keys : List Key) (line : ℕ) (earlier : List Line) (cs : List Contract) (s : State) → HeaderIn h → Every LineIn earlier
    → open_lines h keys line earlier cs ≡ opened s → Lines (length earlier) (length cs) h s
unfolding open_lines
open_lines_in h keys line earlier [] s i ok e =
    subst (Lines (length earlier) 0 h) (same-state e) (unfold opening_state in record { state = refl; count = omega arith; lines = ok })
open_lines_in h keys line earlier (c ∷ cs) s i ok e =
    go (open_line h.shift keys earlier c) refl e (λ l. open_lines_in h keys (suc line) (earlier ++ (l ∷ [])) cs s i)
  where
    more : (l : Line) → Lines (length (earlier ++ (l ∷ []))) (length cs) h s → Lines (length earlier) (length (c ∷ cs)) h s
    more l r = record { state = r.state; count = omega (arith, r.count, length-append earlier (l ∷ [])); lines = r.lines }

    go : (a : LineAnswer) → open_line h.shift keys earlier c ≡ a
        → if_opened a line (λ (l : Line). open_lines h keys (suc line) (earlier ++ (l ∷ [])) cs) ≡ opened s
        → ((l : Line) → Every LineIn (earlier ++ (l ∷ [])) → open_lines h keys (suc line) (earlier ++ (l ∷ [])) cs ≡ opened s → Lines (length (earlier ++ (l ∷ []))) (length cs) h s)
        → Lines (length earlier) (length (c ∷ cs)) h s
    go (Ok l) q e rest = more l (rest l (every_last LineIn earlier l ok (open_line_in h.shift keys earlier c l i.shift q)) e)
    go (Err why) q e rest = absurd (not_opened e)

-- ---- the table
contracts-length : (b : List ℕ) (at n : ℕ) → length (contracts_at b at n) ≡ n
unfolding contracts_at
contracts-length b at zero = refl
contracts-length b at (suc n) = ap suc (contracts-length b (at + 40) n)

state_in : (h : Header) (n : ℕ) (s : State) → HeaderIn h → n ≡ h.contracts → Lines 0 n h s → OpeningIn s
unfolding opening_state
state_in h n s i e r =
    record {
      count = record { least = omega (arith, r.count, i.contracts.least); most = omega (arith, r.count, i.contracts.most) };
      lines = r.lines;
      clock = ap (λ (x : State). x.clock) r.state;
      end = rw (ap (λ (x : State). x.end) r.state) i.end;
      hold = rw (ap (λ (x : State). x.hold) r.state) i.hold;
      left = rw (ap most_left r.state ∙ most-opened h s.lines) i.most;
      near = rw (ap (λ (x : State). x.near) r.state) i.near;
    }

-- What an accepted table tells of its bytes b and of the state s that it opens.
pub record Accepted (b : List ℕ) (s : State) : Type 0 where
  pub long : 40 ≤ length b
  pub header : HeaderIn (header_of b)
  pub layout : laid_out (header_of b) (length b) ≡ true
  pub keys : KeysIn 0 (keys_at b 40 (header_of b).keys)
  pub opens : s ≡ opening_state (header_of b) s.lines
  pub state : OpeningIn s

pub accepted-table : (b : List ℕ) (s : State) → opening b ≡ opened s → Accepted b s
unfolding opening open_records
accepted-table b s e =
    let h = header_of b in
    let keys = keys_at b 40 h.keys in
    let cs = contracts_at b (contracts_start h) h.contracts in
    let long = met_by (leb 40 (length b)) not_opened e in
    let edition = met_by (eqb h.edition 1) not_opened long.1 in
    let ranges = met_by (header_good h) not_opened edition.1 in
    let layout = met_by (laid_out h (length b)) not_opened ranges.1 in
    let i = header_in h ranges.0 in
    go (bad_key 1 0 keys) refl layout.1 (leb-true 40 (length b) long.0) layout.0 i
  where
    go : (k : Option ℕ) → bad_key 1 0 (keys_at b 40 (header_of b).keys) ≡ k
        → if_keys_good k (open_lines (header_of b) (keys_at b 40 (header_of b).keys) 1 [] (contracts_at b (contracts_start (header_of b)) (header_of b).contracts)) ≡ opened s
        → 40 ≤ length b → laid_out (header_of b) (length b) ≡ true → HeaderIn (header_of b) → Accepted b s
    go None q e long layout i =
        let h = header_of b in
        let cs = contracts_at b (contracts_start h) h.contracts in
        let r = open_lines_in h (keys_at b 40 h.keys) 1 [] cs s i (unfold Every in tt) e in
        record {
          long = long;
          header = i;
          layout = layout;
          keys = keys_in 1 0 (keys_at b 40 h.keys) q;
          opens = r.state;
          state = state_in h (length cs) s i (contracts-length b (contracts_start h) h.contracts) r;
        }
    go (Some line) q e long layout i = absurd (not_opened e)

pub table-most : (table : List ℕ) (o : State) → opening table ≡ opened o → o.left ≡ (header_of table).most
unfolding opening_state
table-most table o e = ap (λ (s : State). s.left) (accepted-table table o e).opens
