-- A whole session: a refused table's row, or the rows of its events and the closing rows behind them. Assumes nothing.
use Rattle.std.specs.Prelude.{Ok, Err}
use mathlib.Core.Path.{◌≡◌, refl, sym, ap, ◌∙◌}
use mathlib.Core.List.{List, [], ◌++◌, map, append-nil}
use Prim.Native.Nat.{ℕ, ◌+◌, ◌-◌, ◌≤◌, ◌<◌}
use native.Mathlib.Omega.{arith}
use native.Mathlib.Nat.{zero-add}
use borrow.Author.Tests.{lt-ltb, le-ltb}
use lib.IntN.{ℤ}
use lib.ListN.{length, take, drop, length-append, length-drop, drop_of_length-le}
use lib.Seq.{take_all}
use Rattle.std.proofs.Common.{Ok, Err}
use Rattle.method.specs.words.Types.{State}
use Rattle.method.specs.declared.TableRefusal.{TableRefusal}
use Rattle.method.specs.words.Tables.{Opening, opened, refused}
use Rattle.method.specs.told.Rows.{rows_of_all, closing_row, row_numbers, numbers_of}
use Rattle.method.specs.told.Program.{events_of}
use Rattle.method.specs.computed.Table.{opening}
use Rattle.method.specs.computed.Search.{run, finally}
use Rattle.method.specs.computed.Program.{session_rows, rows_after}
use Rattle.method.specs.declared.Row.{Row}
use Rattle.rows.specs.Buffer.{written}
use Rattle.rows.proofs.Buffer.{written-long, written_on, written-rest, row_long, numbers-append, numbers-one}
use Rattle.corridor.specs.declared.Session.{Session}
use Rattle.rows.specs.Answer.{RowsAnswer, no_room}
use Rattle.corridor.specs.View.{view, put, no_session, opened_session, Valid}
use Rattle.feeding.specs.Feeding.{told, left_by}
use Rattle.closing.specs.Closing.{closing_numbers}
use Rattle.corridor.proofs.Views.{view-put}
use Rattle.corridor.proofs.Theorems.{valid-opened}
use Rattle.feeding.proofs.Chunks.{told_fits, valid-left}
use Rattle.counting.specs.Counted.{most_closing}
use Rattle.counting.proofs.Answering.{closing_few}
use Rattle.sundewcup.specs.Running.{run_needs, rows_told, ran, ran_into}

-- ---- where the room is not there
module _ (table events : List ℕ) (out : List ℤ) {k : ℕ} (e : k ≡ run_needs (length events)) (h : length out < k) where
  pub none-ran : no_room k ≡ ran (length out) table events
  unfolding ran
  none-ran = rw (e, lt-ltb (length out) (run_needs (length events)) (omega arith)) refl

  pub none_into : out ≡ ran_into out table events
  unfolding ran_into
  none_into = rw (lt-ltb (length out) (run_needs (length events)) (omega arith)) refl

-- ---- the rows of a table's answer
rows-refused : (x : Opening) (events : List (List ℕ)) (r : TableRefusal) → opened_session x ≡ Err r
    → numbers_of (rows_after x events) ≡ row_numbers (Row.RefusedTable r.reason r.line)
unfolding opened_session rows_after
rows-refused (opened s) events r said = cc
rows-refused (refused w l) events r said =
    numbers-one (Row.RefusedTable w l) ∙ cc

rows-opened : (x : Opening) (b : List ℕ) (z : Session) → opened_session x ≡ Ok z
    → numbers_of (rows_after x (events_of b)) ≡ told z b ++ closing_numbers (left_by z b)
unfolding opened_session rows_after session_rows
rows-opened (opened s) b z said =
    let e : z ≡ put no_session s = cc in
    numbers-append (rows_of_all (run s (events_of b))) (map closing_row (finally s (events_of b)).lines)
    ∙ ap (λ (x : State). numbers_of (rows_of_all (run x (events_of b))) ++ numbers_of (map closing_row (finally x (events_of b)).lines)) (sym (ap view e ∙ view-put no_session s))
    ∙ ap (λ (x : State). told z b ++ numbers_of (map closing_row x.lines)) (sym (view-put z (finally (view z) (events_of b))))
rows-opened (refused why line) b z said = cc

-- ---- where it is: the rows are those of the method
module _ (table events : List ℕ) (out : List ℤ) (enough : run_needs (length events) ≤ length out) where
  all_ran : (n : ℕ) → n ≡ length (rows_told table events) → ◌≡◌ {A = RowsAnswer} (Ok n) (ran (length out) table events)
  unfolding ran
  all_ran n e = rw (le-ltb (length out) (run_needs (length events)) enough, e) refl

  all_into : (now : List ℤ) → now ≡ written out 0 (rows_told table events) → now ≡ ran_into out table events
  unfolding ran_into
  all_into now e = rw (le-ltb (length out) (run_needs (length events)) enough) e

  -- a refused table
  module _ (r : TableRefusal) (said : opened_session (opening table) ≡ Err r) where
    turned_away : rows_told table events ≡ row_numbers (Row.RefusedTable r.reason r.line)
    turned_away = rows-refused (opening table) (events_of events) r said

    pub refused-ran : ◌≡◌ {A = RowsAnswer} (Ok 6) (ran (length out) table events)
    refused-ran = all_ran 6 (sym (ap length turned_away ∙ row_long (Row.RefusedTable r.reason r.line)))

    pub refused_into : {now : List ℤ} → now ≡ written out 0 (row_numbers (Row.RefusedTable r.reason r.line)) → now ≡ ran_into out table events
    refused_into e = all_into _ (e ∙ ap (written out 0) (sym turned_away))

  -- an opened one
  module _ (first : Session) (said : opened_session (opening table) ≡ Ok first) where
    abbrev last : Session
    last = left_by first events

    pub first-valid : Valid first
    first-valid = valid-opened table (sym said)

    pub last-valid : Valid last
    last-valid = valid-left first events first-valid

    abbrev closing : List ℤ
    closing = closing_numbers last

    rows_are : rows_told table events ≡ told first events ++ closing
    rows_are = rows-opened (opening table) events first said

    fits : length (told first events) + length closing ≤ length out
    fits = omega (arith, told_fits first events first-valid, closing_few last last-valid)

    module _ (at : ℕ) (at-is : at ≡ length (told first events)) {now : List ℤ} (en : now ≡ written out 0 (told first events)) where
      pub told-long : length now ≡ length out
      told-long = ap length en ∙ written-long out 0 (told first events) (omega (arith, fits))

      pub at-inside : at + most_closing ≤ length out
      at-inside = omega (arith, at-is, told_fits first events first-valid)

      -- the part that is lent for the closing rows is all that is left
      abbrev part : List ℤ
      part = take (length now - at) (drop at now)

      part_is : part ≡ drop at now
      part_is = take_all (length now - at) (drop at now) (omega (arith, length-drop at now))

      pub part_long : most_closing ≤ length part
      part_long = rw part_is (omega (arith, length-drop at now, told-long, at-inside))

      none_after : drop (length now - at) (drop at now) ≡ []
      none_after = drop_of_length-le (drop at now) {i = length now - at} (omega (arith, length-drop at now))

      pub opened-ran : (n : ℕ) → n ≡ length closing → ◌≡◌ {A = RowsAnswer} (Ok (at + n)) (ran (length out) table events)
      opened-ran n e = all_ran (at + n) (omega (arith, at-is, ap length rows_are, length-append (told first events) closing))

      behind : written now at closing ≡ written out 0 (rows_told table events)
      behind =
          ap (λ (z : List ℤ). written z at closing) en
          ∙ ap (λ (k : ℕ). written (written out 0 (told first events)) k closing) (at-is ∙ sym (zero-add (length (told first events))))
          ∙ written_on out 0 (told first events) (omega (arith, fits)) closing ∙ ap (written out 0) (sym rows_are)

      pub opened_into : {ys : List ℤ} → ys ≡ written part 0 closing → take at now ++ (ys ++ drop (length now - at) (drop at now)) ≡ ran_into out table events
      opened_into {ys} e =
          all_into _
          (ap (λ (zs : List ℤ). take at now ++ (ys ++ zs)) none_after ∙ ap (λ (zs : List ℤ). take at now ++ zs) (append-nil ys ∙ e)
          ∙ ap (λ (zs : List ℤ). take at now ++ written zs 0 closing) part_is ∙ written-rest now at closing ∙ behind)
