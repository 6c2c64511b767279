-- Where the room is there, the closing rows are written. Assumes nothing.
use mathlib.Core.Path.{◌≡◌, ap, ◌∙◌}
use mathlib.Core.List.{List, map}
use Prim.Native.Nat.{ℕ, ◌*◌, ◌≤◌}
use native.Mathlib.Omega.{arith}
use lib.IntN.{ℤ}
use borrow.Author.Tests.{le-ltb}
use lib.ListN.{length, length-map}
use Rattle.method.specs.told.Rows.{closing_row}
use Rattle.rows.specs.Buffer.{written}
use Rattle.rows.proofs.Buffer.{numbers-long}
use Rattle.corridor.specs.declared.Session.{Session}
use Rattle.corridor.specs.View.{view, Valid}
use Rattle.closing.specs.Closing.{closing_numbers, closed, closed_into}
use Rattle.corridor.proofs.Views.{view-length}
use Rattle.counting.specs.Counted.{number_in, most_closing}

-- ---- the closing rows
closing_long : (s : Session) → Valid s → length (closing_numbers s) ≡ 6 * s.count
closing_long s v =
    numbers-long (map closing_row (view s).lines) ∙ ap (λ (n : ℕ). 6 * n) (length-map (view s).lines closing_row ∙ view-length v)

pub closing_few : (s : Session) → Valid s → length (closing_numbers s) ≤ most_closing
closing_few s v = omega (arith, closing_long s v, v.few)

module _ (s : Session) (v : Valid s) (out : List ℤ) (fits : most_closing ≤ length out) where
  enough : 6 * s.count ≤ length out
  enough = omega (arith, v.few)

  pub closing_count : number_in (closed s (length out)) ≡ length (closing_numbers s)
  unfolding closed
  closing_count = rw (le-ltb (length out) (6 * s.count) enough, closing_long s v)

  pub closing_written : closed_into s out ≡ written out 0 (closing_numbers s)
  unfolding closed_into
  closing_written = rw (le-ltb (length out) (6 * s.count) enough)
