-- The data of the method, as src/lib.rt declares them, and the state of a session (METHOD 1, 11.9, 18.4).
-- A case that several enums have is written behind its enum, as `EventReason.Malformed`.
use Rattle.std.specs.Prelude.{false, List, map, ℕ, ℤ, pos, Option, None, Result}
pub use Rattle.numbers.specs.declared.Steps.{Steps}
pub use Rattle.numbers.specs.declared.Millionths.{Millionths}
pub use Rattle.numbers.specs.declared.Seconds.{Seconds}
pub use Rattle.numbers.specs.declared.Billionths.{Billionths}
pub use Rattle.method.specs.declared.Header.{Header}
pub use Rattle.method.specs.declared.Key.{Key}
pub use Rattle.method.specs.declared.Contract.{Contract}
pub use Rattle.method.specs.declared.Side.{Side}
pub use Rattle.method.specs.declared.Side.TheVariants.{Up, Down}
pub use Rattle.method.specs.declared.Factors.{Factors}
pub use Rattle.method.specs.declared.Terms.{Terms}
pub use Rattle.method.specs.declared.Market.{Market}
pub use Rattle.method.specs.declared.Limits.{Limits}
pub use Rattle.method.specs.declared.Book.{Book}
pub use Rattle.method.specs.declared.Holds.{Holds}
pub use Rattle.method.specs.declared.Line.{Line}
pub use Rattle.method.specs.declared.ShiftLine.{ShiftLine}
pub use Rattle.method.specs.declared.Due.{Due}
pub use Rattle.method.specs.declared.Field.{Field}
pub use Rattle.method.specs.declared.TableReason.{TableReason}
pub use Rattle.method.specs.declared.EventReason.{EventReason}

-- ---- a number with its unit
abbrev pub steps : ℤ → Steps
steps z = record { 0 = z }

abbrev pub millionths : ℕ → Millionths
millionths n = record { 0 = n }

abbrev pub seconds : ℕ → Seconds
seconds n = record { 0 = n }

abbrev pub billionths : ℕ → Billionths
billionths n = record { 0 = n }

-- ---- what may be there, and what may be refused
-- the price that stands on one side of a book, if there is one
abbrev pub Price : Type 0
Price = Option Steps

-- the second at which pressure started, where there is pressure
abbrev pub Hold : Type 0
Hold = Option Seconds

-- an event is accepted, or refused with its reason
abbrev pub EventAnswer : Type 0
EventAnswer = Result (Unit {0}) EventReason

-- A session: exactly the table's lines, in the table's order. `left` is how many shifts may still be made, `near` the near share.
pub record State : Type 0 where
  pub lines : List Line
  pub clock : Seconds
  pub end : Seconds
  pub hold : Seconds
  pub left : ℕ
  pub near : Millionths

-- the ids that an event or a question may name
abbrev pub session_ids : State → List ℕ
session_ids s = map (λ (l : Line). l.terms.id) s.lines

abbrev pub empty_book : Book
empty_book = record { bid = None; ask = None }

abbrev pub no_holds : Holds
no_holds = record { up = None; down = None }

-- what is read past the last line
abbrev pub blank : Line
blank =
    let z : Steps = steps (pos 0) in
    record {
      terms = record { id = 0; flags = 0; halfmove = z; factors = record { up = billionths 0; down = billionths 0 } };
      market = record { centre = z; half1 = z; half2 = z; half3 = z };
      limits = record { upper = z; lower = z; frozen = false };
      book = empty_book;
      holds = no_holds;
    }
