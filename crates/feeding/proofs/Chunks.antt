-- Feeding: what is told fits into the room, the session handed back is valid, a buffer may be fed in two parts, and feeding it is handing it to
-- `event` piece by piece. Assumes nothing.
use Rattle.std.specs.Prelude.{Ok}
use mathlib.Core.Path.{◌≡◌, refl, sym, ap, subst, ◌∙◌}
use mathlib.Core.List.{List, [], ◌∷◌, ◌++◌, map, append_assoc, map-append}
use Prim.Native.Nat.{ℕ, zero, suc, ◌+◌, ◌*◌, ◌/◌, ◌≤◌}
use native.Mathlib.Omega.{arith}
use native.Mathlib.Nat.{zero-add}
use borrow.Author.Tests.{le-ltb}
use lib.Dec.{ltb}
use lib.IntN.{ℤ}
use lib.ListN.{length, take, drop, length-append, length-drop, length-map}
use lib.Seq.{take-append-le, drop-append-le}
use Rattle.method.specs.words.Types.{State}
use Rattle.method.specs.words.Sessions.{Answer, accepted, refused, joined}
use Rattle.method.specs.told.Rows.{rows_of, rows_from, rows_of_all, numbers_of}
use Rattle.method.specs.told.Program.{pieces, events_of}
use Rattle.method.specs.computed.Event.{read, next}
use Rattle.method.specs.computed.Search.{answer, run, finally}
use Rattle.method.specs.declared.Row.{Row}
use Rattle.method.proofs.Answers.{run-right, answers_spend, run-append, finally-append}
use Rattle.method.proofs.Demands.{by_cond}
use Rattle.rows.specs.Buffer.{written}
use Rattle.rows.proofs.Buffer.{written_on, numbers-long, numbers-append}
use Rattle.corridor.specs.declared.Session.{Session}
use Rattle.feeding.specs.Names.{ShiftLine}
use Rattle.corridor.specs.View.{view, put, Valid}
use Rattle.feeding.specs.Feeding.{feed_needs, rows_for, told, left_by, fed_answer, fed_session, fed_into, ToldFits, FeedValid, FeedingIsTheSame}
use Rattle.feeding.specs.Chunks.{raised, behind, FeedOn}
use Rattle.corridor.proofs.Views.{view-put, put-put}
use Rattle.corridor.proofs.Events.{finally-kept}
use Rattle.corridor.proofs.Engine.{engine_runs, engine_is_right}
use Rattle.events.proofs.Cutting.{first-event}

-- ---- how many rows there are, from whatever place their events are counted
rows_few : (n : ℕ) (rs : List Answer) → length (rows_from n rs) ≤ length rs + length (joined rs)
unfolding rows_from rows_of joined
rows_few n [] = omega arith
rows_few n (accepted cs ∷ rs) =
    omega (arith, rows_few (suc n) rs, length-append (rows_of n (accepted cs)) (rows_from (suc n) rs), length-append cs (joined rs), length-map cs Row.Shift)
rows_few n (refused why ∷ rs) =
    omega (arith, rows_few (suc n) rs, length-append (rows_of n (refused why)) (rows_from (suc n) rs))

run_length : (s : State) (bs : List (List ℕ)) → length (run s bs) ≡ length bs
unfolding run
run_length s [] = refl
run_length s (b ∷ bs) = ap suc (run_length (next s (read b) (answer s (read b))) bs)

pieces-length : (n : ℕ) (b : List ℕ) → length (pieces n b) ≡ n
unfolding pieces
pieces-length zero b = refl
pieces-length (suc n) b = ap suc (pieces-length n (drop 20 b))

pub told_fits : ToldFits
told_fits s b v =
    let rs : List Answer = run (view s) (events_of b) in
    omega (
      arith,
      numbers-long (rows_of_all rs),
      rows_few 1 rs,
      run_length (view s) (events_of b),
      pieces-length ((length b + 19) / 20) b,
      answers_spend (view s) (events_of b) rs v.sound (run-right (view s) (events_of b) v.sound),
      v.sane.left,
    )

-- ---- the session stays valid
pub valid-left : (s : Session) (b : List ℕ) → Valid s → Valid (left_by s b)
valid-left s b v = subst Valid (engine_runs s (events_of b) v).session (engine_is_right s (events_of b) v).valid

-- ---- whole events, and then more
events_on : (k : ℕ) (xs ys : List ℕ) → length xs ≡ 20 * k → events_of (xs ++ ys) ≡ events_of xs ++ events_of ys
events_on zero [] ys e = unfold pieces in refl
events_on zero (x ∷ xs) ys e = absurd (omega arith)
events_on (suc k) xs ys e =
    first-event (xs ++ ys) (omega (arith, length-append xs ys))
    ∙ rw (take-append-le 20 xs ys (omega arith), drop-append-le 20 xs ys (omega arith)) (ap (λ (bs : List (List ℕ)). take 20 xs ∷ bs) (events_on k (drop 20 xs) ys (omega (arith, length-drop 20 xs))))
    ∙ ap (λ (bs : List (List ℕ)). bs ++ events_of ys) (sym (first-event xs (omega arith)))

-- rows whose events are counted from further on are the same, raised
shifts_still : (k : ℕ) (cs : List ShiftLine) → map (raised k) (map Row.Shift cs) ≡ map Row.Shift cs
shifts_still k [] = refl
shifts_still k (c ∷ cs) = ap (λ (rows : List Row). Row.Shift c ∷ rows) (shifts_still k cs)

rows-raised : (k n : ℕ) (rs : List Answer) → rows_from (k + n) rs ≡ map (raised k) (rows_from n rs)
unfolding rows_from rows_of
rows-raised k n [] = refl
rows-raised k n (accepted cs ∷ rs) =
    let on : suc (k + n) ≡ k + suc n = omega arith in
    rw (map-append (raised k) (map Row.Shift cs) (rows_from (suc n) rs), shifts_still k cs, on, rows-raised k (suc n) rs)
rows-raised k n (refused why ∷ rs) =
    let on : suc (k + n) ≡ k + suc n = omega arith in
    ap (λ (rows : List Row). Row.RefusedEvent why (k + n) ∷ rows) (ap (λ (m : ℕ). rows_from m rs) on ∙ rows-raised k (suc n) rs)

rows_append : (n : ℕ) (rs qs : List Answer) → rows_from n (rs ++ qs) ≡ rows_from n rs ++ rows_from (length rs + n) qs
unfolding rows_from
rows_append n [] qs = rw (zero-add n)
rows_append n (a ∷ rs) qs =
    let on : length rs + suc n ≡ suc (length rs) + n = omega arith in
    rw (rows_append (suc n) rs qs, on) (sym (append_assoc (rows_of n a) (rows_from (suc n) rs) (rows_from (suc (length rs) + n) qs)))

rows_on : (s : State) (bs cs : List (List ℕ)) → rows_of_all (run s (bs ++ cs)) ≡ rows_of_all (run s bs) ++ map (raised (length bs)) (rows_of_all (run (finally s bs) cs))
rows_on s bs cs =
    ap rows_of_all (run-append s bs cs) ∙ rows_append 1 (run s bs) (run (finally s bs) cs)
    ∙ rw (run_length s bs, rows-raised (length bs) 1 (run (finally s bs) cs))

module _ (s : Session) (xs ys : List ℕ) (k : ℕ) (whole : length xs ≡ 20 * k) where
  abbrev then : State
  then = finally (view s) (events_of xs)

  seen : view (left_by s xs) ≡ then
  seen = view-put s then

  pub rows_for_on : rows_for s (xs ++ ys) ≡ rows_for s xs ++ behind xs (rows_for (left_by s xs) ys)
  rows_for_on =
      ap (λ (bs : List (List ℕ)). rows_of_all (run (view s) bs)) (events_on k xs ys whole) ∙ rows_on (view s) (events_of xs) (events_of ys)
      ∙ ap (λ (x : State). rows_for s xs ++ behind xs (rows_of_all (run x (events_of ys)))) (sym seen)

  pub left_on : left_by s (xs ++ ys) ≡ left_by (left_by s xs) ys
  left_on =
      ap (λ (bs : List (List ℕ)). put s (finally (view s) bs)) (events_on k xs ys whole) ∙ ap (put s) (finally-append (view s) (events_of xs) (events_of ys))
      ∙ sym (put-put s then (finally then (events_of ys)) (finally-kept then (events_of ys)))
      ∙ ap (λ (x : State). put (left_by s xs) (finally x (events_of ys))) (sym seen)

-- ---- the same, said of `feed`
pub fed_answer-is : (s : Session) (size : ℕ) (b : List ℕ) → feed_needs (length b) ≤ size → fed_answer s size b ≡ Ok (length (told s b))
unfolding fed_answer
fed_answer-is s size b h = rw (le-ltb size (feed_needs (length b)) h)

pub fed_session-is : (s : Session) (size : ℕ) (b : List ℕ) → feed_needs (length b) ≤ size → fed_session s size b ≡ left_by s b
unfolding fed_session
fed_session-is s size b h = rw (le-ltb size (feed_needs (length b)) h)

pub fed_into-is : (s : Session) (out : List ℤ) (b : List ℕ) → feed_needs (length b) ≤ length out → fed_into s out b ≡ written out 0 (told s b)
unfolding fed_into
fed_into-is s out b h = rw (le-ltb (length out) (feed_needs (length b)) h)

pub valid_feed : FeedValid
unfolding fed_session
valid_feed s size b v =
    by_cond Valid (ltb size (feed_needs (length b))) (λ e. v) (λ e. valid-left s b v)

pub feed_on : FeedOn
feed_on s xs ys k whole v =
    record {
      session = λ m n p h g i. rw (fed_session-is s m xs h, fed_session-is (left_by s xs) n ys g, fed_session-is s p (xs ++ ys) i) (sym (left_on s xs ys k whole));
      numbers = numbers;
      buffer = buffer;
    }
  where
    more : List ℤ
    more = numbers_of (behind xs (rows_for (left_by s xs) ys))

    numbers : told s (xs ++ ys) ≡ told s xs ++ more
    numbers = ap numbers_of (rows_for_on s xs ys k whole) ∙ numbers-append (rows_for s xs) (behind xs (rows_for (left_by s xs) ys))

    buffer : (out : List ℤ) → feed_needs (length xs) ≤ length out → feed_needs (length (xs ++ ys)) ≤ length out
        → fed_into s out (xs ++ ys) ≡ written (fed_into s out xs) (length (told s xs)) more
    buffer out h i =
        let fits : 0 + length (told s xs) ≤ length out = omega (arith, told_fits s xs v) in
        let on : written (written out 0 (told s xs)) (length (told s xs)) more ≡ written out 0 (told s xs ++ more) =
        ap (λ (at : ℕ). written (written out 0 (told s xs)) at more) (sym (zero-add (length (told s xs)))) ∙ written_on out 0 (told s xs) fits more in
        rw (fed_into-is s out (xs ++ ys) i, fed_into-is s out xs h, numbers) (sym on)

-- ---- piece by piece
pub feeding_is_the_same : FeedingIsTheSame
feeding_is_the_same s b v =
    let engine = engine_runs s (events_of b) v in
    (ap (λ (rs : List Answer). numbers_of (rows_of_all rs)) engine.answers, engine.session)
