-- Ticks are free (METHOD 26): an event that tells nothing new, put before an accepted event that is not earlier, changes no shift line and no
-- later session. It follows from rule 2's definition and from which events are accepted. Words and statements, and no proof; the name in
-- brackets is the theorem, in proofs/Ticks and proofs/Thinning.
use Rattle.std.specs.Prelude.{List, [], ◌∷◌, ◌++◌, ◌≡◌, ℕ, ◌≤◌, Ok}
use Rattle.method.specs.words.Types.{ShiftLine, State}
use Rattle.method.specs.words.Wire.{word}
use Rattle.method.specs.words.Ranges.{Every}
use Rattle.method.specs.words.Events.{IsTick, IsQuote, Unknown, EventAnswered}
use Rattle.method.specs.words.Books.{BookSaid}
use Rattle.method.specs.words.Sessions.{Follows, Answer, AnswersInWords, joined}
use Rattle.method.specs.words.Rules.{Opens, AfterAny}
use Rattle.method.specs.computed.Sound.{Proper}

-- ---- what is put in (METHOD 26.1)
-- a quote whose bid and ask, absent ones too, are those that stand in state s in the book of its contract
pub record Repeats (s : State) (b : List ℕ) : Type 0 where
  pub quote : IsQuote b
  pub standing : Every (λ l. l.terms.id ≡ word b 4 → BookSaid b l.book) s.lines

-- an event that tells nothing new in state s
pub data NothingNew (s : State) (b : List ℕ) : Type 0 where
  tick : IsTick b → NothingNew s b
  repeat : Repeats s b → NothingNew s b

-- ---- where it is put (METHOD 26.2)
abbrev pub Accepts : State → List ℕ → Type 0
Accepts s b = EventAnswered s b (Ok tt)

abbrev pub Refuses : State → List ℕ → Type 0
Refuses s b = Accepts s b → ⊥

-- In state s the event b is put before the refused events `between` and the accepted event f. A refused event leaves s (rule 1), so each of
-- `between`, and then f, meets s. The clock of s is the time of the accepted event before b, or 0: that b is not before it is in `acceptable`.
pub record Put (s : State) (b : List ℕ) (between : List (List ℕ)) (f : List ℕ) : Type 0 where
  pub nothing_new : NothingNew s b
  pub acceptable : Accepts s b
  pub between_refused : Every (Refuses s) between
  pub later : Accepts s f
  pub to_the_later : word b 0 ≤ word f 0

-- ---- what it leaves the same (METHOD 26.3)
-- From state s the two lists come to the same: all shift lines, one after another, and the session at the end, its clock included.
abbrev pub Same : State → List (List ℕ) → List (List ℕ) → Type 0
Same s bs ds =
    (rs qs : List Answer) (m n : State) → AnswersInWords s bs rs m → AnswersInWords s ds qs n → (joined rs ≡ joined qs) × (m ≡ n)

-- ---- one event put in
-- After the events `past`, refused ones among them, or none at all, which leave state s: R holds of the list without b and the list with it,
-- wherever b is put before an accepted f. With no `rest` that speaks of the session after f, and else of whatever follows.
abbrev pub PutAfter : (List (List ℕ) → List (List ℕ) → Type 0) → List (List ℕ) → State → Type 0
PutAfter R past s =
    (b : List ℕ) (between : List (List ℕ)) (f : List ℕ) → Put s b between f → (rest : List (List ℕ))
    → R (past ++ between ++ f ∷ rest) (past ++ b ∷ between ++ f ∷ rest)

-- in a session that a table opens (ticks_are_free), and in one that is taken up in any proper state (free_from_kept)
abbrev pub TicksAreFree : (State → Type 0) → Type 0
TicksAreFree From = AfterAny From (λ o from past told s. PutAfter (Same o) past s)

-- Two looks are one: an event that tells nothing new, and the accepted event after it, have together the shift lines that the later one has
-- alone, and leave the same session. (two_looks_are_one)
abbrev pub TwoLooksAreOne : Type 0
TwoLooksAreOne =
    (s m n : State) (b f : List ℕ) (cs ds : List ShiftLine) → Proper s → NothingNew s b → Follows s b cs m → Follows m f ds n → Follows s f (cs ++ ds) n

-- ---- that there is always such an event (METHOD 26.4)
-- A tick at a time from the clock to the later event's is acceptable in any state (tick-acceptable),
abbrev pub TickAcceptable : Type 0
TickAcceptable =
    (s : State) (b f : List ℕ) → IsTick b → Accepts s f → s.clock.0 ≤ word b 0 → word b 0 ≤ word f 0 → Accepts s b

-- and so is a quote that repeats the standing one of a contract, in any session: no standing book is crossed. (repeat-acceptable)
abbrev pub RepeatAcceptable : Type 0
RepeatAcceptable =
    AfterAny Opens (λ o opens past told s. (b f : List ℕ) → Repeats s b → (Unknown s b → ⊥) → Accepts s f → s.clock.0 ≤ word b 0 → word b 0 ≤ word f 0
    → Accepts s b)

-- ---- many at once (METHOD 26.6)
-- ds is bs less events that are refused or tell nothing new, each as it meets the session of the whole list. The next event that is left after
-- each of the latter is an accepted one; so the last accepted event stays, and no event is left that was refused only because of one that is not.
pub data Thinned : State → List (List ℕ) → List (List ℕ) → Type 0 where
  none : {s : State} → Thinned s [] []
  kept :
      {s m : State} {b : List ℕ} {a : Answer} {bs ds : List (List ℕ)} → AnswersInWords s (b ∷ []) (a ∷ []) m → Thinned m bs ds
      → Thinned s (b ∷ bs) (b ∷ ds)
  dropped_refused : {s : State} {b : List ℕ} {bs ds : List (List ℕ)} → Refuses s b → Thinned s bs ds → Thinned s (b ∷ bs) ds
  dropped_free :
      {s m : State} {b f : List ℕ} {cs : List ShiftLine} {bs ds : List (List ℕ)} → NothingNew s b → Follows s b cs m → Thinned m bs (f ∷ ds) → Accepts m f
      → Thinned s (b ∷ bs) (f ∷ ds)

-- the thinned list comes to the same as the whole one (thinned_is_same)
abbrev pub ThinnedIsSame : Type 0
ThinnedIsSame = (s : State) (bs ds : List (List ℕ)) → Proper s → Thinned s bs ds → Same s bs ds

-- two lists that differ by such events alone: less some of these, in this way, both are one list
pub record Alike (s : State) (bs ds : List (List ℕ)) : Type 0 where
  pub common : List (List ℕ)
  pub one : Thinned s bs common
  pub other : Thinned s ds common

-- they come to the same (alike_is_same)
abbrev pub AlikeIsSame : Type 0
AlikeIsSame = (s : State) (bs ds : List (List ℕ)) → Proper s → Alike s bs ds → Same s bs ds

-- and a list with one event put in is alike to the list without it (put_is_alike)
abbrev pub PutIsAlike : Type 0
PutIsAlike = AfterAny Proper (λ o proper past told s. PutAfter (Alike o) past s)
