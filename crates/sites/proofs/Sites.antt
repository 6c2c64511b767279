-- Two sites: a theorem for each statement of specs/Sites. Assumes nothing.
use mathlib.Core.Path.{◌≡◌, refl, sym, ap, ◌∙◌}
use mathlib.Core.List.{List, map}
use Prim.Native.Nat.{ℕ}
use lib.IntN.{ℤ}
use lib.ListN.{length, take}
use lib.Seq.{take_at}
use Rattle.method.specs.declared.Row.TheVariants as Row
use Rattle.method.specs.words.Types.{State}
use Rattle.method.specs.words.Sessions.{joined}
use Rattle.method.specs.told.Rows.{numbers_of}
use Rattle.method.specs.told.Program.{events_of}
use Rattle.method.specs.computed.Search.{run, finally}
use Rattle.method.proofs.Ticks.{alike_is_same}
use Rattle.corridor.specs.declared.Session.{Session}
use Rattle.rows.specs.Answer.{RowsAnswer}
use Rattle.corridor.specs.View.{view, put, Valid}
use Rattle.feeding.specs.Feeding.{rows_for, told, left_by}
use Rattle.feeding.specs.Chunks.{all_bytes, rows_in}
use Rattle.corridor.specs.Engine.{one_by_one, left_after}
use Rattle.corridor.proofs.Engine.{valid_proper, engine_runs, engine_is_right}
use Rattle.corridor.proofs.Views.{view-put}
use Rattle.feeding.proofs.Chunks.{fed_answer-is, fed_session-is, fed_into-is}
use Rattle.feeding.proofs.Joined.{one-buffer, places_aside}
use Rattle.sites.specs.Sites.{EventsAlike, only_shifts, FedWith, ToldBy, BuffersAlike, ChunksAsHanded, ChunksAlike}
use Rattle.sites.proofs.Rows.{lines_in, lines-append, lines_still, only_shifts_of, only_shifts_are_lines}

-- ---- handed to `event`
-- sessions that come from one and show one state are one
same_view : (s : Session) (bs ds : List (List ℕ)) → Valid s → view (left_after s bs) ≡ view (left_after s ds) → left_after s bs ≡ left_after s ds
same_view s bs ds v e =
    let x : State = finally (view s) bs in
    let y : State = finally (view s) ds in
    let one : left_after s bs ≡ put s x = (engine_runs s bs v).session in
    let other : left_after s ds ≡ put s y = (engine_runs s ds v).session in
    let same : x ≡ y = sym (view-put s x) ∙ ap view (sym one) ∙ e ∙ ap view other ∙ view-put s y in
    one ∙ ap (put s) same ∙ sym other

pub events_alike : EventsAlike
events_alike s bs ds v a =
    let one = engine_is_right s bs v in
    let other = engine_is_right s ds v in
    let h = alike_is_same (view s) bs ds (valid_proper s v) a _ _ _ _ one.answers other.answers in
    record { lines = h.0; session = same_view s bs ds v h.1 }

-- ---- the bytes b, told in rows: what the same events come to that are handed over
module _ (s : Session) (b : List ℕ) (v : Valid s) where
  told_as_handed : only_shifts (told s b) ≡ numbers_of (map Row.Shift (joined (one_by_one s (events_of b))))
  told_as_handed = rw (engine_runs s (events_of b) v).answers (only_shifts_are_lines (run (view s) (events_of b)))

  left_as_handed : left_by s b ≡ left_after s (events_of b)
  left_as_handed = sym (engine_runs s (events_of b) v).session

-- ---- fed in one buffer
module _ {s : Session} {b : List ℕ} {out : List ℤ} {r : RowsAnswer} {x : Session} {now : List ℤ} (f : FedWith s b out r x now) where
  told_by : ToldBy r now (told s b)
  told_by =
      record {
        counted = f.answered ∙ fed_answer-is s (length out) b f.enough;
        written = ap (take (length (told s b))) (f.buffer ∙ fed_into-is s out b f.enough) ∙ take_at (told s b) _ _ refl;
      }

  session_by : x ≡ left_by s b
  session_by = f.left ∙ fed_session-is s (length out) b f.enough

pub buffers_alike : BuffersAlike
buffers_alike s b d v a out lent r q x y now then f g =
    let h = events_alike s (events_of b) (events_of d) v a in
    record {
      one = told s b;
      other = told s d;
      one_told = told_by f;
      other_told = told_by g;
      lines = told_as_handed s b v ∙ rw h.lines (sym (told_as_handed s d v));
      session = session_by f ∙ left_as_handed s b v ∙ h.session ∙ sym (session_by g ∙ left_as_handed s d v);
    }

-- ---- fed in chunks
pub chunks_as_handed : ChunksAsHanded
chunks_as_handed s cs v w =
    let one = one-buffer s cs v w in
    let same : lines_in (rows_in s cs) ≡ lines_in (rows_for s (all_bytes cs)) = places_aside lines_in lines-append lines_still s cs ∙ ap lines_in one.rows in
    record {
      lines = only_shifts_of (rows_in s cs) ∙ rw same (sym (only_shifts_of (rows_for s (all_bytes cs))) ∙ told_as_handed s (all_bytes cs) v);
      session = one.session ∙ left_as_handed s (all_bytes cs) v;
    }

pub chunks_alike : ChunksAlike
chunks_alike s bs ds v w u a =
    let h = events_alike s (events_of (all_bytes bs)) (events_of (all_bytes ds)) v a in
    let one = chunks_as_handed s bs v w in
    let other = chunks_as_handed s ds v u in
    record { lines = one.lines ∙ rw h.lines (sym other.lines); session = one.session ∙ h.session ∙ sym other.session }
