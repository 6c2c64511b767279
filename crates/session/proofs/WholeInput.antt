-- All bytes that the program hands to write are those that are written for the whole input. Assumes nothing.
use mathlib.Core.Path.{◌≡◌, refl, sym, ap, ◌∙◌}
use mathlib.Core.Bool.{Bool, true, false, cond}
use mathlib.Core.List.{List, [], ◌∷◌, ◌++◌, map, append_assoc, append-nil}
use Prim.Native.Nat.{ℕ}
use native.Mathlib.Omega.{arith}
use borrow.Author.Tests.{ltb-true}
use lib.Dec.{ltb}
use lib.ListN.{take, drop}
use Rattle.std.proofs.Common.{Ok}
use Rattle.method.specs.declared.Row.{Row}
use Rattle.method.specs.words.Types.{State}
use Rattle.method.specs.words.Layout.{header_of, table_length}
use Rattle.method.specs.words.Tables.{Opening, opened, refused}
use Rattle.method.specs.told.Rows.{rows_of_all, closing_row}
use Rattle.method.specs.told.Program.{events_of}
use Rattle.method.specs.told.Text.{line_text, text_of}
use Rattle.method.specs.computed.Table.{opening}
use Rattle.method.specs.computed.Search.{run, finally}
use Rattle.method.specs.computed.Program.{session_rows, rows_after, program}
use Rattle.method.proofs.Computed.{computed-output}
use Rattle.method.proofs.Text.{text-append}
use Rattle.corridor.specs.declared.Session.{Session}
use Rattle.corridor.specs.View.{view, put, no_session, opened_session, Valid}
use Rattle.feeding.specs.Feeding.{rows_for, left_by}
use Rattle.feeding.specs.Chunks.{all_bytes, WholeButLast, raised, rows_in, left_in}
use Rattle.corridor.proofs.Views.{view-put}
use Rattle.corridor.proofs.Theorems.{valid-opened}
use Rattle.feeding.proofs.Joined.{one-buffer, places_aside}
use Rattle.session.specs.Reading.{longest_table, table_end}
use Rattle.session.specs.Printing.{told_text, closing_text, texts, texts_after, WholeInput}
use Rattle.session.proofs.HeaderAlone.{same_answer, is-refused}

-- ---- a line shows no place of an event, so it is the same wherever chunks are cut
line_still : (k : ℕ) (row : Row) → line_text (raised k row) ≡ line_text row
unfolding line_text
line_still k (Row.Shift c) = refl
line_still k (Row.RefusedEvent why place) = refl
line_still k (Row.RefusedTable why line) = refl
line_still k (Row.Closed c) = refl

text_still : (k : ℕ) (rows : List Row) → text_of (map (raised k) rows) ≡ text_of rows
text_still k [] = refl
text_still k (row ∷ rows) = rw (line_still k row, text_still k rows)

-- ---- what is handed to write: the text of each chunk's rows in turn, and then the closing lines
pub texts_are : (s : Session) (chunks : List (List ℕ)) → all_bytes (texts s chunks) ≡ text_of (rows_in s chunks) ++ closing_text (left_in s chunks)
unfolding rows_in left_in
texts_are s [] = append-nil (closing_text s)
texts_are s (c ∷ cs) =
    ap (λ (t : List ℕ). told_text s c ++ t) (texts_are (left_by s c) cs)
    ∙ sym (append_assoc (told_text s c) (text_of (rows_in (left_by s c) cs)) (closing_text (left_in (left_by s c) cs)))
    ∙ ap (λ (t : List ℕ). t ++ closing_text (left_in (left_by s c) cs)) (sym (text-append (rows_for s c) (rows_in (left_by s c) cs)))

-- a state's rows, said of the session that holds it
state-told : (x : State) (b : List ℕ) → told_text (put no_session x) b ++ closing_text (left_by (put no_session x) b) ≡ text_of (session_rows x (events_of b))
unfolding session_rows
state-told x b =
    let s : Session = put no_session x in
    let events : List (List ℕ) = events_of b in
    ap (λ (y : State). told_text s b ++ text_of (map closing_row y.lines)) (view-put s (finally (view s) events))
    ∙ ap (λ (y : State). text_of (rows_of_all (run y events)) ++ text_of (map closing_row (finally y events).lines)) (view-put no_session x)
    ∙ sym (text-append (rows_of_all (run x events)) (map closing_row (finally x events).lines))

-- ---- after a table's answer
abbrev text-after : Opening → List (List ℕ) → List ℕ
text-after x chunks = all_bytes (texts_after (opened_session x) chunks)

after-opening : (x : Opening) (chunks : List (List ℕ)) → ((s : Session) → opened_session x ≡ Ok s → Valid s) → WholeButLast chunks
    → text-after x chunks ≡ text_of (rows_after x (events_of (all_bytes chunks)))
unfolding opened_session rows_after
after-opening (opened x) chunks v w =
    let s : Session = put no_session x in
    let one = one-buffer s chunks (v s refl) w in
    texts_are s chunks ∙ rw (places_aside text_of text-append text_still s chunks ∙ ap text_of one.rows, one.session) (state-told x (all_bytes chunks))
after-opening (refused why line) chunks v w = refl

after-refusal : (x : Opening) (chunks : List (List ℕ)) (events : List (List ℕ)) → ((s : State) → x ≡ opened s → ⊥) → text-after x chunks ≡ text_of (rows_after x events)
unfolding opened_session rows_after
after-refusal (opened s) chunks events never = absurd (never s refl)
after-refusal (refused why line) chunks events never = refl

-- ---- the whole input
module _ (input : List ℕ) (chunks : List (List ℕ)) (w : WholeButLast chunks) where
  abbrev size : ℕ
  size = table_length (header_of input)

  by_counts : (t : Bool) → ltb longest_table size ≡ t → all_bytes chunks ≡ drop (cond t 40 size) input
      → text-after (opening (take (cond t 40 size) input)) chunks ≡ text_of (rows_after (opening (take size input)) (events_of (drop size input)))
  by_counts true t e =
      let many = ltb-true longest_table size t in
      rw (same_answer input many 40 size (omega arith) (omega arith))
      (after-refusal (opening (take size input)) chunks (events_of (drop size input)) (is-refused input many size (omega arith)))
  by_counts false t e =
      after-opening (opening (take size input)) chunks (λ s e. valid-opened (take size input) (sym e)) w
      ∙ ap (λ (b : List ℕ). text_of (rows_after (opening (take size input)) (events_of b))) e

  in_text : all_bytes chunks ≡ drop (table_end (header_of input)) input → text-after (opening (take (table_end (header_of input)) input)) chunks ≡ text_of (program input)
  unfolding program table_end
  in_text = by_counts (ltb longest_table size) refl

pub whole-input : WholeInput
whole-input input chunks w e = (computed-output input _).1 (in_text input chunks w e)
