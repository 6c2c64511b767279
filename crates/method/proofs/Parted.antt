-- Refusals that say more than they once did: a theorem for each statement of laws/Parted. Assumes nothing.
use Rattle.std.proofs.Common.{List, arith}
use Prim.Native.Nat.{ℕ}
use Rattle.method.specs.words.Types.{Millionths, Key, Contract, Field, TableReason}
use Rattle.method.specs.words.Ranges.{ContractIn}
use Rattle.method.specs.words.Tables.{Fault}
use Rattle.method.specs.words.Events.{IsQuote, malformed, absent_not_zero, price_out_of_range}
use Rattle.method.specs.laws.Parted.{ContractOnce, FieldParted, QuoteOnce, EventOnce, RefusedUnread, NoEventParted}
use Rattle.method.specs.computed.Types.{ReadEvent}
use Rattle.method.proofs.Fields.{by_first}
use Rattle.method.proofs.EventAnswered.{Says, tick_or_quote, says}

-- ---- the ranges of a contract; the width share by arithmetic, so that where its range leaves out the end, it is contract_now that falls
contract_once : (c : Contract) → ContractIn c → ContractOnce c
contract_once c r =
    record {
      price = (r Field.Price).0;
      positive = (r Field.Price).1;
      spot = r Field.Spot;
      least = r Field.Least;
      rate1 = r Field.Rate1;
      rate2 = (r Field.Rate2).0;
      rate3 = (r Field.Rate3).0;
      rising2 = (r Field.Rate2).1;
      rising3 = (r Field.Rate3).1;
      width = omega (arith, r Field.Width);
      days = r Field.Days;
      flags = r Field.Flags;
    }

contract_now : (c : Contract) → ContractOnce c → ContractIn c
contract_now c r Field.Price = (r.price, r.positive)
contract_now c r Field.Spot = r.spot
contract_now c r Field.Least = r.least
contract_now c r Field.Rate1 = r.rate1
contract_now c r Field.Rate2 = (r.rate2, r.rising2)
contract_now c r Field.Rate3 = (r.rate3, r.rising3)
contract_now c r Field.Width = r.width
contract_now c r Field.Days = r.days
contract_now c r Field.Flags = r.flags

at_fault : (shift : Millionths) (keys : List Key) (earlier : List Contract) (c : Contract) {f : Field} → Fault shift keys earlier c (TableReason.Field f)
    → ContractIn c → ⊥
at_fault shift keys earlier c (Fault.field before f rest e r n) q = n (q f)

pub field_parted : FieldParted
field_parted shift keys earlier c = (
  λ f q. at_fault shift keys earlier c f.fault (contract_now c q),
  λ n. by_first c (λ q. absurd (n (contract_once c q))) (λ before f rest e r m. record { field = f; fault = Fault.field before f rest e r m }),
)

-- ---- what is an event
quote_once : (b : List ℕ) → IsQuote b → QuoteOnce b
quote_once b q =
    record {
      whole = q.like.whole;
      flags = q.like.flags;
      bid = record { in_range = q.prices.bid; absent = q.absent.bid };
      ask = record { in_range = q.prices.ask; absent = q.absent.ask };
    }

quote_now : (b : List ℕ) → QuoteOnce b → IsQuote b
quote_now b q =
    record {
      like = record { whole = q.whole; flags = q.flags };
      absent = record { bid = q.bid.absent; ask = q.ask.absent };
      prices = record { bid = q.bid.in_range; ask = q.ask.in_range };
    }

pub no_event_parted : NoEventParted
no_event_parted s b = (unread, λ n. go n (says b))
  where
    unread : RefusedUnread s b → EventOnce b → ⊥
    unread (RefusedUnread.malformed (malformed n m)) (EventOnce.tick t) = n t
    unread (RefusedUnread.malformed (malformed n m)) (EventOnce.quote q) = m (quote_now b q).like
    unread (RefusedUnread.absent (absent_not_zero l n)) (EventOnce.tick t) = tick_or_quote b t.flags l
    unread (RefusedUnread.absent (absent_not_zero l n)) (EventOnce.quote q) = n (quote_now b q).absent
    unread (RefusedUnread.out_of_range (price_out_of_range l a n)) (EventOnce.tick t) = tick_or_quote b t.flags l
    unread (RefusedUnread.out_of_range (price_out_of_range l a n)) (EventOnce.quote q) = n (quote_now b q).prices

    go : (EventOnce b → ⊥) → {e : ReadEvent} → Says b e → RefusedUnread s b
    go n (Says.says_nothing t q) = RefusedUnread.malformed (malformed t q)
    go n (Says.says_absent l a) = RefusedUnread.absent (absent_not_zero l a)
    go n (Says.says_beyond l a p) = RefusedUnread.out_of_range (price_out_of_range l a p)
    go n (Says.says_tick t) = absurd (n (EventOnce.tick t))
    go n (Says.says_quote q) = absurd (n (EventOnce.quote (quote_once b q)))
