-- The line of each kind of row. Assumes nothing.
use Rattle.std.proofs.Common.{◌≡◌, Bool, true, false, cond, List, ℕ, ℤ, ◌^◌, ◌<◌, refl, sym, ap, ◌∙◌}
use lib.Signed.{mag}
use mir.Syntax.{w64}
use mir.Val.{to_z, of_z}
use Rattle.text.specs.declared.Kind.{Kind}
use Rattle.text.specs.declared.Kind.TheVariants.{Shift, RefusedEvent, RefusedTable, Closing}
use Rattle.text.specs.Line.{is, number, shift_text, refused_event_text, refused_table_text, closed_text, numbers_text}
use Rattle.text.specs.Kinds.{kind_of}
use Rattle.text.proofs.Putting.{read_back}

abbrev pub text_by : Kind → List ℤ → List ℕ
text_by Shift row = shift_text row
text_by RefusedEvent row = refused_event_text row
text_by RefusedTable row = refused_table_text row
text_by Closing row = closed_text row

each : (row : List ℤ) (one two three : Bool)
    → cond one (shift_text row) (cond two (refused_event_text row) (cond three (refused_table_text row) (closed_text row)))
    ≡ text_by (cond one Shift (cond two RefusedEvent (cond three RefusedTable Closing))) row
each row true two three = refl
each row false true three = refl
each row false false true = refl
each row false false false = refl

numbers-by_kind : (row : List ℤ) → numbers_text row ≡ text_by (kind_of (number row 0)) row
unfolding numbers_text
numbers-by_kind row = let kind = number row 0 in each row (is kind 1) (is kind 2) (is kind 3)

-- the kind that was told from the number's bits
pub by_kind : (row : List ℤ) {k kind : Kind} → mag (number row 0) < 2 ^ 63 → kind ≡ kind_of (to_z w64 (of_z w64 (number row 0))) → kind ≡ k → numbers_text row ≡ text_by k row
by_kind row h told e =
    numbers-by_kind row ∙ ap (λ (k : Kind). text_by k row) (sym (told ∙ ap kind_of (read_back (number row 0) h)) ∙ e)
