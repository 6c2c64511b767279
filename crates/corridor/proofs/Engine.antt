-- The engine answers as rule 2 says, event by event. Assumes nothing.
use mathlib.Core.Path.{◌≡◌, refl, sym, ap, ◌∙◌}
use mathlib.Core.List.{List, [], ◌∷◌}
use Prim.Native.Nat.{ℕ}
use Rattle.method.specs.words.Types.{State}
use Rattle.method.specs.words.Sessions.{Answer, accepted, refused}
use Rattle.method.specs.computed.Event.{read, next}
use Rattle.method.specs.computed.Search.{answer, run, finally}
use Rattle.method.proofs.TableAnswered.{answered_table}
use Rattle.method.proofs.OneSession.{run_in_words}
use Rattle.corridor.specs.declared.Session.{Session}
use Rattle.corridor.specs.View.{view, put, no_session, opened_session, Valid}
use Rattle.corridor.specs.Reply.{shifts_told, left_of}
use Rattle.corridor.specs.Engine.{session_after, answer_in, one_by_one, left_after, OpensAs, ValidProper, EngineRuns, EngineIsRight}
use Rattle.corridor.proofs.Views.{view-put, put-put, put_view}
use Rattle.corridor.proofs.Theorems.{valid-event}
use Rattle.corridor.proofs.Events.{finally-kept}

-- ---- one answer
answer-is : (a : Answer) → answer_in (shifts_told a) ≡ a
unfolding shifts_told
answer-is (accepted cs) = refl
answer-is (refused why) = refl

module _ (s : Session) (b : List ℕ) where
  view-is : (a : Answer) → view (left_of s (read b) a) ≡ next (view s) (read b) a
  unfolding left_of next
  view-is (accepted cs) = view-put s (next (view s) (read b) (accepted cs))
  view-is (refused why) = refl

  put_is : (a : Answer) → Valid s → left_of s (read b) a ≡ put s (next (view s) (read b) a)
  unfolding left_of next
  put_is (accepted cs) v = refl
  put_is (refused why) v = sym (put_view v)

-- ---- one after another
answers_are : (s : Session) (bs : List (List ℕ)) → one_by_one s bs ≡ run (view s) bs
unfolding one_by_one run
answers_are s [] = refl
answers_are s (b ∷ bs) =
    let a : Answer = answer (view s) (read b) in
    let first = answer-is a in
    let rest = answers_are (session_after s b) bs ∙ ap (λ (x : State). run x bs) (view-is s b a) in
    cc

view-left : (s : Session) (bs : List (List ℕ)) → view (left_after s bs) ≡ finally (view s) bs
unfolding left_after finally
view-left s [] = refl
view-left s (b ∷ bs) = view-left (session_after s b) bs ∙ ap (λ (x : State). finally x bs) (view-is s b (answer (view s) (read b)))

session-left : (s : Session) (bs : List (List ℕ)) → Valid s → left_after s bs ≡ put s (finally (view s) bs)
unfolding left_after finally
session-left s [] v = sym (put_view v)
session-left s (b ∷ bs) v =
    let a : Answer = answer (view s) (read b) in
    let x : State = next (view s) (read b) a in
    session-left (session_after s b) bs (valid-event s b v)
    ∙ ap (λ (y : State). put (session_after s b) (finally y bs)) (view-is s b a)
    ∙ ap (λ (z : Session). put z (finally x bs)) (put_is s b a v) ∙ put-put s x (finally x bs) (finally-kept x bs)

left-valid : (s : Session) (bs : List (List ℕ)) → Valid s → Valid (left_after s bs)
unfolding left_after
left-valid s [] v = v
left-valid s (b ∷ bs) v = left-valid (session_after s b) bs (valid-event s b v)

-- ---- the engine
pub opens_as : OpensAs
unfolding opened_session
opens_as table o a = rw (answered_table table a) (view-put no_session o)

pub valid_proper : ValidProper
valid_proper s v = record { sane = v.sane; sound = v.sound; distinct = v.distinct }

pub engine_runs : EngineRuns
engine_runs s bs v = record { answers = answers_are s bs; session = session-left s bs v }

pub engine_is_right : EngineIsRight
engine_is_right s bs v =
    record {
      answers = rw (answers_are s bs, view-left s bs) (run_in_words (view s) v.sound v.distinct bs);
      valid = left-valid s bs v;
    }
