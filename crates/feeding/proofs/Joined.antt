-- Events that come in chunks are answered as if they came in one buffer. Assumes nothing.
use mathlib.Core.Path.{◌≡◌, refl, sym, ap, ◌∙◌}
use mathlib.Core.List.{List, [], ◌∷◌, ◌++◌, map, append-nil}
use Prim.Native.Nat.{ℕ, ◌*◌, ◌/◌, ◌%◌}
use native.Mathlib.Omega.{arith}
use lib.ListN.{length}
use Rattle.method.specs.declared.Row.{Row}
use Rattle.method.specs.told.Rows.{rows_from}
use Rattle.method.specs.told.Program.{pieces, events_of}
use Rattle.method.specs.computed.Search.{run, finally}
use Rattle.corridor.specs.declared.Session.{Session}
use Rattle.corridor.specs.View.{Valid}
use Rattle.feeding.specs.Feeding.{rows_for, left_by}
use Rattle.feeding.specs.Chunks.{all_bytes, WholeButLast, raised, behind, rows_in, counted_on, left_in, OneBuffer}
use Rattle.corridor.proofs.Views.{put_view}
use Rattle.feeding.proofs.Chunks.{rows_for_on, left_on, valid-left}

twenties : (n : ℕ) → n % 20 ≡ 0 → n ≡ 20 * (n / 20)
twenties n e = omega arith

rows-joined : (s : Session) (cs : List (List ℕ)) → WholeButLast cs → counted_on s cs ≡ rows_for s (all_bytes cs)
unfolding counted_on rows_from run pieces
rows-joined s [] w = refl
rows-joined s (c ∷ []) w = append-nil (rows_for s c) ∙ ap (rows_for s) (sym (append-nil c))
rows-joined s (c ∷ d ∷ cs) w =
    ap (λ (rows : List Row). rows_for s c ++ behind c rows) (rows-joined (left_by s c) (d ∷ cs) w.1)
    ∙ sym (rows_for_on s c (all_bytes (d ∷ cs)) (length c / 20) (twenties (length c) w.0))

left-joined : (s : Session) (cs : List (List ℕ)) → Valid s → WholeButLast cs → left_in s cs ≡ left_by s (all_bytes cs)
unfolding left_in finally pieces
left-joined s [] v w = sym (put_view v)
left-joined s (c ∷ []) v w = ap (left_by s) (sym (append-nil c))
left-joined s (c ∷ d ∷ cs) v w =
    left-joined (left_by s c) (d ∷ cs) (valid-left s c v) w.1
    ∙ sym (left_on s c (all_bytes (d ∷ cs)) (length c / 20) (twenties (length c) w.0))

pub one-buffer : OneBuffer
one-buffer s cs v w = record { rows = rows-joined s cs w; session = left-joined s cs v w }

-- What is read off rows one after another, and does not look at places, is the same of the rows that each chunk tells.
module _ {A : Type 0} (off : List Row → List A) (on : (rows more : List Row) → off (rows ++ more) ≡ off rows ++ off more)
    (still : (k : ℕ) (rows : List Row) → off (map (raised k) rows) ≡ off rows) where
  pub places_aside : (s : Session) (cs : List (List ℕ)) → off (rows_in s cs) ≡ off (counted_on s cs)
  unfolding rows_in counted_on
  places_aside s [] = refl
  places_aside s (c ∷ cs) =
      let rest : List Row = counted_on (left_by s c) cs in
      on (rows_for s c) (rows_in (left_by s c) cs)
      ∙ ap (λ (xs : List A). off (rows_for s c) ++ xs) (places_aside (left_by s c) cs ∙ sym (still (length (events_of c)) rest))
      ∙ sym (on (rows_for s c) (behind c rest))
