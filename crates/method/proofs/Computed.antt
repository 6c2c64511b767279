-- What is computed is what the words admit: a theorem for each statement of computed/Equal. Assumes nothing.
use mathlib.Core.Path.{◌≡◌, refl, ap, ◌∙◌, subst}
use mathlib.Core.List.{List, ◌++◌, map}
use Prim.Native.Nat.{ℕ}
use Rattle.method.specs.words.Tables.{Opening, opened, refused, TableAnswered}
use Rattle.method.specs.words.Events.{EventAnswered}
use Rattle.method.specs.told.Types.{Row}
use Rattle.method.specs.told.Rows.{rows_of_all, closing_row}
use Rattle.method.specs.told.Program.{table_of, events_in, Prints, refusal, session}
use Rattle.method.specs.told.Text.{text_of}
use Rattle.method.specs.computed.Equal.{
  OpeningIs,
  VerdictIs,
  SessionIs,
  OpensProper,
  StaysProper,
  OneShift,
  OneEvent,
  OneNextState,
  SameAnswers,
  RightAnswers,
  SessionReached,
  ProgramPrints,
  OutputWritten,
}
use Rattle.method.specs.computed.Table.{opening}
use Rattle.method.specs.computed.Relation.{Answers}
use Rattle.method.specs.computed.Search.{run}
use Rattle.method.specs.computed.Program.{session_rows, rows_after, program}
use Rattle.method.proofs.TableAnswered.{table_answered, answered_table}
use Rattle.method.proofs.EventAnswered.{event_answered, answered_verdict}
use Rattle.method.proofs.Answers.{run-right, answers_unique, finally-reached}
use Rattle.method.proofs.OneStep.{shifted_in_words, applied_in_words, shifted_one, applied-one}
use Rattle.method.proofs.OneSession.{follows_right, right_follows, words_answers, answers_words, words_one, told-from, opens_proper, run_in_words}

-- ---- rule 1
pub computed-opening : OpeningIs
computed-opening b a = (λ e. subst (TableAnswered b) e (table_answered b), answered_table b)

pub computed-verdict : VerdictIs
computed-verdict s b a = (λ e. subst (EventAnswered s b) e (event_answered s b), answered_verdict s b)

-- ---- rule 2
pub computed-session : SessionIs
computed-session o p bs rs n =
    let its = run_in_words o p.sound p.distinct bs in
    (λ h. words_one h its, λ e. rw (e.0, e.1) its)

pub computed_opens_proper : OpensProper
computed_opens_proper = opens_proper

pub computed_stays_proper : StaysProper
computed_stays_proper o p bs rs s h = (told-from o p h).proper

-- ---- one next state
pub computed-shift : OneShift
computed-shift s c n z = (λ h. shifted_one h (shifted_in_words s c z), λ e. rw e (shifted_in_words s c z))

pub computed-event : OneEvent
computed-event s b n x d i = (λ h. applied-one i h (applied_in_words s b x d i), λ e. rw e (applied_in_words s b x d i))

pub computed-next : OneNextState
computed-next s v d b cs n = (λ h. follows_right s v d b cs h, λ h. rw h.1 (right_follows s v d b cs h.0))

-- ---- the computed relation
pub computed-answers : SameAnswers
computed-answers s v d bs rs n = (λ h. words_answers v d h, λ h. rw h.1 (answers_words s bs rs v d h.0))

pub computed-run : RightAnswers
computed-run s v bs rs =
    let right : Answers s bs (run s bs) = run-right s bs v in
    (λ h. answers_unique s bs rs (run s bs) h right, λ q. rw q right)

pub computed-reached : SessionReached
computed-reached s bs = finally-reached s bs

-- ---- the program
prints-one : {input : List ℕ} {rows : List Row} → Prints input rows → rows ≡ program input
unfolding program rows_after session_rows
prints-one (refusal h) = rw (answered_table _ h) refl
prints-one {input} (session {o} h k) =
    let e = answered_table _ h in
    let one = (computed-session o (opens_proper o (record { table = table_of input; opened_by = h })) (events_in input) _ _).0 k in
    rw e (λ i. rows_of_all (one.0 i) ++ map closing_row (one.1 i).lines)

prints-it : (input : List ℕ) → Prints input (program input)
unfolding program rows_after session_rows
prints-it input = go (opening (table_of input)) refl
  where
    go : (a : Opening) → opening (table_of input) ≡ a → Prints input (rows_after a (events_in input))
    go (refused why line) e = refusal (subst (TableAnswered (table_of input)) e (table_answered (table_of input)))
    go (opened o) e =
        let h = subst (TableAnswered (table_of input)) e (table_answered (table_of input)) in
        let p = opens_proper o (record { table = table_of input; opened_by = h }) in
        session h (run_in_words o p.sound p.distinct (events_in input))

pub computed-program : ProgramPrints
computed-program input rows = (prints-one, λ e. rw e (prints-it input))

pub computed-output : OutputWritten
computed-output input bytes =
    (λ w. w.text ∙ ap text_of (prints-one w.prints), λ e. record { rows = program input; prints = prints-it input; text = e })
