-- Rows that stand in a buffer of numbers, as text at the start of a buffer of bytes. Assumes nothing.
use mathlib.Core.Path.{◌≡◌, sym, ap, ◌∙◌}
use mathlib.Core.List.{List}
use Prim.Native.Nat.{ℕ, ◌+◌, ◌≤◌}
use native.Mathlib.Omega.{arith}
use lib.IntN.{ℤ}
use lib.ListN.{length, take, drop, length-append}
use lib.Seq.{take_at}
use Rattle.method.specs.declared.Row.{Row}
use Rattle.method.specs.told.Rows.{row_numbers, numbers_of}
use Rattle.method.specs.told.Text.{line_text, text_of}
use Rattle.rows.specs.Buffer.{written}
use Rattle.text.specs.Line.{numbers_text, all_text, Put}
use Rattle.text.proofs.Putting.{put_as}
use Rattle.text.proofs.Rows.{line-is, all_are}
use Rattle.session.specs.Printing.{Begins}

module _ {A : Type 0} (out xs : List A) {now : List A} {n : ℕ} (w : now ≡ written out 0 xs) (e : n ≡ length xs) where
  pub front : take n now ≡ xs
  front = rw w (take_at xs (drop (0 + length xs) out) n (sym e))

  pub enough : n ≤ length now
  enough = omega (arith, ap length w, length-append xs (drop (0 + length xs) out))

  pub counted : n ≡ length (take n now)
  counted = e ∙ sym (ap length front)

pub begins : {b c t : List ℕ} {r : ℕ} → Put b 0 t c r → Begins c r t
begins {b} {c} {t} {r} p =
    let long : r ≡ length t = omega (arith, p.place) in
    record { long = (enough b t p.buffer long, counted b t p.buffer long); same = front b t p.buffer long }

-- what `text::lines` makes of the numbers of rows
pub said : (rows : List Row) {xs : List ℤ} {b c : List ℕ} {r : ℕ} → xs ≡ numbers_of rows → Put b 0 (all_text xs) c r → Begins c r (text_of rows)
said rows e p = begins (put_as (ap all_text e ∙ all_are rows) p)

pub said-line : (row : Row) {xs : List ℤ} {b c : List ℕ} {r : ℕ} → xs ≡ row_numbers row → Put b 0 (numbers_text xs) c r → Begins c r (line_text row)
said-line row e p = begins (put_as (ap numbers_text e ∙ line-is row) p)
