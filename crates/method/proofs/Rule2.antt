-- Rule 2: a theorem for each statement of words/Rules and laws/Rule2. Assumes nothing.
use Rattle.std.specs.Prelude.{Some}
use mathlib.Core.Path.{◌≡◌, sym, ap, ◌∙◌, subst}
use mathlib.Core.List.{List, ◌∷◌, ◌++◌}
use mathlib.Core.Logic.{◌⊎◌}
use Prim.Native.Nat.{ℕ, ◌≤◌}
use native.Mathlib.Omega.{arith}
use Rattle.method.specs.words.Types.{ShiftLine, State, seconds}
use Rattle.method.specs.words.Wire.{word}
use Rattle.method.specs.words.Ranges.{Every}
use Rattle.method.specs.words.Tables.{opening_state}
use Rattle.method.specs.words.Holds.{Stands, First, Done, hold_at}
use Rattle.method.specs.words.Sessions.{Answer, accepted, SameTable, Follows, AnswersInWords}
use Rattle.method.specs.words.Rules.{Opens, EverySession}
use Rattle.method.specs.laws.Seen.{Caller, Timely, AtOnce}
use Rattle.method.specs.laws.Stages.{Stage, Begun, Throughout}
use Rattle.method.specs.laws.Rule2.{OneSession, EventAtOnce, NothingLeft, NoneMissed, HoldsStandExactly, HoldsStandBetween, InOrder, EachLineCalledFor, EachLineReported, ShiftsCounted, AtMostSixteen, Rule2, AtMostOne, WheneverLooked, AtOpening, TableKept}
use Rattle.method.specs.computed.Head.{most_left}
use Rattle.method.specs.computed.Shift.{after}
use Rattle.method.specs.computed.Event.{read, next}
use Rattle.method.specs.computed.Relation.{Calls, time, Right}
use Rattle.method.specs.computed.Search.{run, finally}
use Rattle.method.specs.computed.Later.{start}
use Rattle.method.specs.computed.Rooms.{LineIn, Room}
use Rattle.method.specs.computed.Sound.{Sound, Proper}
use Rattle.method.proofs.Every.{every_weaker, every_middle}
use Rattle.method.proofs.Table.{accepted-table}
use Rattle.method.proofs.TableAnswered.{answered_table}
use Rattle.method.proofs.EventAnswered.{answered_verdict}
use Rattle.method.proofs.EveryLine.{after_keeps}
use Rattle.method.proofs.HoldLife.{holds_exact}
use Rattle.method.proofs.Head.{after_kept}
use Rattle.method.proofs.Serving.{after-judged, calls_spend, calls_rest, first-caller}
use Rattle.method.proofs.Answers.{
  opening_idle,
  next-clock,
  next-kept,
  reached-kept,
  next_done,
  next-timely,
  next-count,
  answers-rising,
  answers-count,
}
use Rattle.method.proofs.Stages.{shift_stages as shift-stages-of, pressed_since}
use Rattle.method.proofs.OtherSide.{Fit, fit_room, fit_shift, fit_quote}
use Rattle.method.proofs.NoneMissed.{calls_answer}
use Rattle.method.proofs.Later.{moment_next}
use Rattle.method.proofs.Reached.{shifted-from}
use Rattle.method.proofs.Books.{books-over, accepted-time}
use Rattle.method.proofs.OneSession.{serves_after, serves_on, follows_right, words_one, Told, proper_held, told-from, opens_proper, run_in_words, words_reported}
use Rattle.method.proofs.Moments.{shift_stages_are, stages_are}

-- ---- of any state at all
pub rule2_at_most_one : AtMostOne
rule2_at_most_one s bs rs qs m n h k = words_one h k

pub rule2_whenever_looked : WheneverLooked
rule2_whenever_looked u t s m n cs ds l h k = serves_on l h k

-- ---- an accepted event of a session from a proper state, and what is computed of it
module _ (o : State) (p : Proper o) {past : List (List ℕ)} {told : List Answer} {s : State} (h : AnswersInWords o past told s) where
  t : Told o past told s
  t = told-from o p h

  sound : Sound s
  sound = t.proper.sound

  fit : Every Fit s.lines
  fit = every_weaker (Room (most_left s)) Fit fit_room s.lines t.proper.sane.rooms

  same_end : s.end ≡ o.end
  same_end = rw t.is (reached-kept o past told).end

  module _ {b : List ℕ} {cs : List ShiftLine} {n : State} (f : Follows s b cs n) where
    right : Right s (read b) (accepted cs)
    right = (follows_right s sound t.proper.distinct b cs f).0

    is-next : n ≡ next s (read b) (accepted cs)
    is-next = (follows_right s sound t.proper.distinct b cs f).1

    at : time (read b) ≡ seconds (word b 0)
    at = accepted-time s b (answered_verdict s b f.taken)

    kept : SameTable s n
    kept = rw is-next (next-kept s (read b) (accepted cs))

    at_once : AtOnce s b cs n
    at_once =
        record {
          shifted = rw is-next (shifted-from (proper_held s t.proper) (moment_next b (accepted cs) start right));
          books = rw is-next (books-over s b cs t.proper.distinct (answered_verdict s b f.taken));
          left = rw is-next (next-count s (read b) (accepted cs) sound right);
          clock = rw is-next (next-clock s (read b) cs right ∙ at);
          table = kept;
        }

    done : Done (seconds (word b 0)) n
    done = rw (is-next, ← at) (next_done s (read b) cs sound right)

-- ---- of a session that begins in a proper state
module _ {From : State → Type 0} (proper : (o : State) → From o → Proper o) where
  pub rule2_one_session : OneSession From
  rule2_one_session o q bs =
      let p = proper o q in
      let its : AnswersInWords o bs (run o bs) (finally o bs) = run_in_words o p.sound p.distinct bs in
      record { it = (run o bs, finally o bs); so = its; only = λ r h. let e = words_one h its in λ i. (e.0 i, e.1 i) }

  pub rule2_at_once : EventAtOnce From
  rule2_at_once o q past told s h b cs n f = at_once o (proper o q) h f

  -- none missed
  pub rule2_nothing_left : NothingLeft From
  rule2_nothing_left o q past told s h b cs n f = done o (proper o q) h f

  pub rule2_none_missed : NoneMissed From
  rule2_none_missed o q past told s h b cs ds m n f k x stands u w =
      let p = proper o q in
      let e : m ≡ after cs s = serves_after k in
      let by : x.second.0 ≤ (time (read b)).0 = rw (at o p h f) u in
      rw e
      (calls_answer (time (read b)) (after cs s) ds x (after_keeps Fit fit_shift fit_quote cs s (fit o p h)) (after-judged cs s (sound o p h).exact)
      (calls_rest (time (read b)) s cs ds (unfold Right in (right o p h f).1)) (subst (λ (j : State). Stands j x) e stands) by
      (rw ((after_kept cs s).end, same_end o p h) w))

  -- where holds stand
  pub rule2_exact : HoldsStandExactly From
  rule2_exact o q bs rs s h = holds_exact s (sound o (proper o q) h).exact

  pub rule2_exact_between : HoldsStandBetween From
  rule2_exact_between o q past told s h t cs m k =
      rw (serves_after k) (holds_exact (after cs s) (after-judged cs s (sound o (proper o q) h).exact))

  -- order
  pub rule2_order : InOrder From
  rule2_order o q bs rs s h = let p = proper o q in answers-rising o bs rs p.sound (told-from o p h).answers

  -- no other
  pub rule2_called_for : EachLineCalledFor From
  rule2_called_for o q past told s h b cs c ds m n f k =
      let p = proper o q in
      let t = told-from o p h in
      let e : m ≡ after cs s = serves_after k in
      let r = right o p h f in
      let first : First (time (read b)) (after cs s) c = unfold Calls in (calls_rest (time (read b)) s cs (c ∷ ds) (unfold Right in r.1)).0 in
      let by : Caller m c = rw e (first-caller first) in
      let all = next-timely s (read b) (cs ++ c ∷ ds) (sound o p h) r in
      let there = pressed_since o past told (read b) cs (c ∷ ds) c.side by.place by.start p.sound t.answers
      (subst (λ (j : State). Right j (read b) (accepted (cs ++ c ∷ ds))) t.is r)
      (subst (λ (j : State). hold_at c.side j by.place ≡ Some by.start) (e ∙ ap (after cs) t.is) by.held) in
      let before = stages_are p.sound p.distinct h in
      let during = shift_stages_are k ∙ ap (λ (j : State). shift-stages-of j cs) t.is in
      record {
        caller = by;
        timely = rw (at o p h f, same_end o p h) at (every_middle (Timely s.clock (time (read b)) s.end) cs c ds all);
        unbroken =
            subst
            (λ (ms : List Stage). Begun c.side by.place by.start ms ⊎ Throughout c.side by.place by.start o ms)
            (sym (λ i. before i ++ during i)) there;
      }

  pub rule2_reported : EachLineReported From
  rule2_reported o q bs rs s h = words_reported h

  pub rule2_count : ShiftsCounted From
  rule2_count o q bs rs s h = let p = proper o q in let t = told-from o p h in rw t.is (answers-count o bs rs p.sound t.answers)

  pub rule2_at_most_sixteen : AtMostSixteen From
  rule2_at_most_sixteen o q past told s h b cs n f =
      let p = proper o q in
      let lines = calls_spend (time (read b)) s cs (sound o p h).exact (unfold Right in (right o p h f).1) in
      let most = (told-from o p h).proper.sane.left in
      omega arith

  all_of_it : Rule2 From
  all_of_it =
      record {
        one_session = rule2_one_session;
        at_once = rule2_at_once;
        nothing_left = rule2_nothing_left;
        none_missed = rule2_none_missed;
        exact = rule2_exact;
        exact_between = rule2_exact_between;
        in_order = rule2_order;
        called_for = rule2_called_for;
        reported = rule2_reported;
        counted = rule2_count;
        at_most_sixteen = rule2_at_most_sixteen;
      }

pub rule2 : Rule2 Opens
rule2 = all_of_it opens_proper

pub rule2_kept : Rule2 Proper
rule2_kept = all_of_it (λ o p. p)

-- ---- of what a table opens
pub rule2_every_session : EverySession
rule2_every_session = rule2.one_session

pub rule2_at_opening : AtOpening
rule2_at_opening o q =
    let e = answered_table q.table q.opened_by in
    let i = (accepted-table q.table o e).state in
    (every_weaker LineIn _ (λ l r. r.book) o.lines i.lines, i.clock, opening_idle q.table o e)

pub rule2_table_kept : TableKept
unfolding opening_state
rule2_table_kept o q bs rs s h =
    let k = reached-kept o bs rs in
    let opens = (accepted-table q.table o (answered_table q.table q.opened_by)).opens in
    rw (told-from o (opens_proper o q) h).is
    (record {
      end = k.end ∙ ap (λ (s : State). s.end) opens;
      hold = k.hold ∙ ap (λ (s : State). s.hold) opens;
      near = k.near ∙ ap (λ (s : State). s.near) opens;
    })
