-- The text of rows after rows. Assumes nothing.
use mathlib.Core.Path.{◌≡◌, refl, sym}
use mathlib.Core.List.{List, [], ◌∷◌, ◌++◌, append_assoc}
use Rattle.method.specs.told.Types.{Row}
use Rattle.method.specs.told.Text.{line_text, text_of}

pub text-append : (rows others : List Row) → text_of (rows ++ others) ≡ text_of rows ++ text_of others
text-append [] others = refl
text-append (row ∷ rows) others = rw (text-append rows others) (sym (append_assoc (line_text row) (text_of rows) (text_of others)))
