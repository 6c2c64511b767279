-- Feeding a buffer of events: what has been told and what is still ahead make up the method's answers. Assumes nothing.
use Rattle.std.proofs.Common.{Ok}
use mathlib.Core.Path.{◌≡◌, refl, sym, ap, ◌∙◌}
use mathlib.Core.Bool.{true}
use mathlib.Core.List.{List, [], ◌∷◌, ◌++◌, map, append_assoc, append-nil}
use mathlib.Core.Logic.{inl, inr}
use Prim.Native.Nat.{ℕ, suc, ◌+◌, ◌*◌, ◌/◌, ◌≤◌, ◌<◌, min}
use native.Mathlib.Numerals.{add-one}
use native.Mathlib.Omega.{arith}
use borrow.Author.Tests.{lt-ltb, le-ltb}
use lib.Dec.{ltb}
use lib.IntN.{ℤ}
use lib.ListN.{length, take, drop, length-append, length-map, drop_of_length-le}
use lib.Seq.{take_at, drop_at, take_all}
use Rattle.std.proofs.lemmas.List.{nil_from_length}
use Rattle.std.proofs.lemmas.Bool.{cases_lt}
use Rattle.method.specs.words.Types.{State}
use Rattle.method.specs.words.Sessions.{Answer, accepted, refused}
use Rattle.method.specs.told.Rows.{rows_of, rows_from, numbers_of}
use Rattle.method.specs.told.Program.{pieces, events_of}
use Rattle.method.specs.computed.Head.{most_left}
use Rattle.method.specs.computed.Event.{read, next}
use Rattle.method.specs.computed.Relation.{Right, Answers}
use Rattle.method.specs.computed.Search.{answer, run, finally}
use Rattle.method.specs.declared.Row.{Row}
use Rattle.method.proofs.Answers.{next_spend, run-right}
use Rattle.rows.specs.Buffer.{written}
use Rattle.rows.specs.Answer.{RowsAnswer, no_room}
use Rattle.rows.proofs.Buffer.{written_on, written-long, numbers-long, numbers-append}
use Rattle.corridor.specs.declared.Session.{Session}
use Rattle.corridor.specs.View.{view, put, Valid}
use Rattle.corridor.specs.Reply.{left_of}
use Rattle.feeding.specs.Feeding.{feed_needs, told, fed_answer, fed_session, fed_into}
use Rattle.corridor.proofs.Views.{view-put, put-put, put_view}
use Rattle.corridor.proofs.Events.{finally-kept}
use Rattle.corridor.proofs.Theorems.{valid-event}
use Rattle.events.proofs.Cutting.{first-event}

-- ---- one event comes off what is left: 20 bytes, or all that there are
pub record Piece (rest piece behind : List ℕ) : Type 0 where
  pub parts : rest ≡ piece ++ behind
  pub size : length piece ≡ min 20 (length rest)
  pub some : 0 < length rest

-- as the library's `chunks` says it
pub piece_of : {size : ℕ} → size ≡ 20 → {rest piece behind : List ℕ} → (rest ≡ piece ++ behind) × (length piece ≡ min size (length rest)) × (0 < length rest)
    → Piece rest piece behind
piece_of e p = record { parts = p.0; size = p.1 ∙ rw e refl; some = p.2 }

module _ {rest piece behind : List ℕ} (c : Piece rest piece behind) where
  sum : length rest ≡ length piece + length behind
  sum = ap length c.parts ∙ length-append piece behind

  fewer : (length rest + 19) / 20 ≡ 1 + (length behind + 19) / 20
  fewer = omega (arith, sum, c.size, c.some)

  comes : (take 20 rest ≡ piece) × (drop 20 rest ≡ behind)
  comes =
      elim (cases_lt (length rest) 20) [
        | inl short ↦
            let none : behind ≡ [] = nil_from_length behind (omega (arith, sum, c.size)) in (
              take_all 20 rest (omega arith) ∙ c.parts ∙ ap (λ (b : List ℕ). piece ++ b) none ∙ append-nil piece,
              drop_of_length-le rest {i = 20} (omega arith) ∙ sym none,
            )
        | inr long ↦
            let whole : length piece ≡ 20 = omega (arith, c.size) in
            (ap (take 20) c.parts ∙ take_at piece behind _ whole, ap (drop 20) c.parts ∙ drop_at piece behind _ whole)
      ]

  first : events_of rest ≡ piece ∷ events_of behind
  first = first-event rest c.some ∙ rw (comes.0, comes.1)

-- ---- the answers to the events from a place on, in numbers
abbrev answers-from : ℕ → State → List (List ℕ) → List ℤ
answers-from place s events = numbers_of (rows_from place (run s events))

told-first : (place : ℕ) (s : State) (b : List ℕ) (bs : List (List ℕ))
    → answers-from place s (b ∷ bs) ≡ numbers_of (rows_of place (answer s (read b))) ++ answers-from (place + 1) (next s (read b) (answer s (read b))) bs
unfolding run rows_from
told-first place s b bs =
    rw (add-one place) (numbers-append (rows_of place (answer s (read b))) (rows_from (suc place) (run (next s (read b) (answer s (read b))) bs)))

-- ---- the loop: `done` has been told, of so many events, and the rest is what the session at hand will tell
module _ (o : Session) (b : List ℕ) (out : List ℤ) where
  pub record Ahead (s : Session) (at : ℕ) (rest : List ℕ) (event : ℕ) (now : List ℤ) : Type 0 where
    pub done : List ℤ
    pub valid : Valid s
    pub counted : event + (length rest + 19) / 20 ≡ (length b + 19) / 20
    pub answers : told o b ≡ done ++ answers-from (event + 1) (view s) (events_of rest)
    pub session : put o (finally (view o) (events_of b)) ≡ put s (finally (view s) (events_of rest))
    pub here : now ≡ written out 0 done
    pub long : length done ≡ at
    pub left : at + 6 * ((length rest + 19) / 20 + most_left (view s)) ≤ length out

  pub ahead-long : {s : Session} {at : ℕ} {rest : List ℕ} {event : ℕ} {now : List ℤ} → Ahead s at rest event now → length now ≡ length out
  ahead-long h = ap length h.here ∙ written-long out 0 h.done (omega (arith, h.long, h.left))

  module _ {s : Session} {at : ℕ} {rest : List ℕ} {event : ℕ} {now : List ℤ} (h : Ahead s at rest event now) {piece behind : List ℕ} (c : Piece rest piece behind) where
    abbrev a : Answer
    a = answer (view s) (read piece)

    rows_there : answers-from (event + 1) (view s) (events_of rest) ≡ numbers_of (rows_of (event + 1) a) ++ answers-from (event + 1 + 1) (next (view s) (read piece) a) (events_of behind)
    rows_there = ap (answers-from (event + 1) (view s)) (first c) ∙ told-first (event + 1) (view s) piece (events_of behind)

    state_there : finally (view s) (events_of rest) ≡ finally (next (view s) (read piece) a) (events_of behind)
    unfolding finally
    state_there = ap (finally (view s)) (first c)

    -- x is the session after the event, whose answer has k rows
    step : (x : Session) (k : ℕ) {then : List ℤ} → Valid x → view x ≡ next (view s) (read piece) a
        → ((y : State) → length y.lines ≡ length (view x).lines → put s y ≡ put x y) → k ≡ length (rows_of (event + 1) a) → k + most_left (view x) ≤ 1 + most_left (view s)
        → then ≡ written now at (numbers_of (rows_of (event + 1) a)) → Ahead x (at + 6 * k) behind (event + 1) then
    step x k v same puts count few wrote =
        let bs : List (List ℕ) = events_of behind in
        let d : List ℤ = h.done in
        let n : List ℤ = numbers_of (rows_of (event + 1) a) in
        let so_far : at ≡ 0 + length d = omega (arith, h.long) in
        record {
          done = d ++ n;
          valid = v;
          counted = omega (arith, h.counted, fewer c);
          answers = h.answers ∙ ap (λ (z : List ℤ). d ++ z) (rows_there ∙ rw same refl) ∙ sym (append_assoc d n (answers-from (event + 1 + 1) (view x) bs));
          session =
              h.session ∙ ap (put s) (state_there ∙ ap (λ (y : State). finally y bs) (sym same))
              ∙ puts (finally (view x) bs) (finally-kept (view x) bs);
          here =
              wrote ∙ ap (λ (z : List ℤ). written z at n) h.here ∙ ap (λ (k : ℕ). written (written out 0 d) k n) so_far
              ∙ written_on out 0 d (omega (arith, h.long, h.left)) n;
          long = omega (arith, length-append d n, numbers-long (rows_of (event + 1) a), h.long);
          left = omega (arith, fewer c, h.left);
        }

    right : Right (view s) (read piece) a
    right = unfold run Answers in (run-right (view s) (piece ∷ []) h.valid.sound).0

    -- an event's rows fit into what is left of the buffer, and so does the row of a refusal
    pub row_fits : at + 6 ≤ length now
    row_fits = omega (arith, fewer c, h.left, ahead-long h)

    pub rows_fit : (q : Answer) → a ≡ q → at + 6 * length (rows_of (event + 1) q) ≤ length now
    unfolding rows_of
    rows_fit (accepted cs) p =
        let n = next_spend (view s) (read piece) (accepted cs) h.valid.sound (rw p at right) in
        omega (arith, n, length-map cs Row.Shift, fewer c, h.left, ahead-long h)
    rows_fit (refused why) p = row_fits

    answered : (q : Answer) → a ≡ q → Valid (left_of s (read piece) q) → {then : List ℤ} → then ≡ written now at (numbers_of (rows_of (event + 1) a))
        → Ahead (left_of s (read piece) q) (at + 6 * length (rows_of (event + 1) q)) behind (event + 1) then
    unfolding left_of rows_of
    answered (accepted cs) p v wrote =
        let x : State = next (view s) (read piece) (accepted cs) in
        let spend = next_spend (view s) (read piece) (accepted cs) h.valid.sound (rw p at right) in
        step (put s x) (length (map Row.Shift cs)) v (view-put s x ∙ ap (next (view s) (read piece)) (sym p))
        (λ y e. sym (put-put s x y (e ∙ ap (λ (z : State). length z.lines) (view-put s x))))
        (rw p refl) (omega (arith, spend, length-map cs Row.Shift, ap most_left (view-put s x))) wrote
    answered (refused why) p v wrote =
        step s 1 v (rw p (unfold next in refl)) (λ y e. refl) (rw p refl) (omega arith) wrote

    pub ahead_turn : {x : Session} → x ≡ left_of s (read piece) a → {k : ℕ} → k ≡ at + 6 * length (rows_of (event + 1) a) → {then : List ℤ}
        → then ≡ written now at (numbers_of (rows_of (event + 1) a)) → Ahead x k behind (event + 1) then
    ahead_turn e f wrote = rw (f, e) (answered a refl (valid-event s piece h.valid) wrote)

  module _ {s : Session} {at : ℕ} {rest : List ℕ} {event : ℕ} {now : List ℤ} (h : Ahead s at rest event now) (last : length rest ≡ 0) (enough : feed_needs (length b) ≤ length out) where
    none_left : events_of rest ≡ []
    unfolding pieces
    none_left = rw (nil_from_length rest last)

    told_all : told o b ≡ h.done
    unfolding run rows_from
    told_all = h.answers ∙ ap (λ (z : List (List ℕ)). h.done ++ answers-from (event + 1) (view s) z) none_left ∙ append-nil h.done

    pub all_answer : ◌≡◌ {A = RowsAnswer} (Ok at) (fed_answer o (length out) b)
    unfolding fed_answer
    all_answer = rw (le-ltb (length out) (feed_needs (length b)) enough, told_all, h.long) refl

    pub all_session : s ≡ fed_session o (length out) b
    unfolding fed_session finally
    all_session =
        rw (le-ltb (length out) (feed_needs (length b)) enough)
        (sym (h.session ∙ ap (λ (z : List (List ℕ)). put s (finally (view s) z)) none_left ∙ put_view h.valid))

    pub all_into : now ≡ fed_into o out b
    unfolding fed_into
    all_into = rw (le-ltb (length out) (feed_needs (length b)) enough, told_all) h.here

-- ---- where the room is not there
module _ (s : Session) (out : List ℤ) (b : List ℕ) {k : ℕ} (e : k ≡ feed_needs (length b)) (h : length out < k) where
  short : ltb (length out) (feed_needs (length b)) ≡ true
  short = lt-ltb (length out) (feed_needs (length b)) (omega arith)

  pub nothing_answer : no_room k ≡ fed_answer s (length out) b
  unfolding fed_answer
  nothing_answer = rw (short, e) refl

  pub nothing_session : s ≡ fed_session s (length out) b
  unfolding fed_session
  nothing_session = rw short refl

  pub nothing_into : out ≡ fed_into s out b
  unfolding fed_into
  nothing_into = rw short refl
