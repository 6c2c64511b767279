-- A turn of feed's loop: an event refused, or taken after the holds that were due. Assumes nothing.
use Rattle.std.proofs.Common.{None, Some, Ok, Err, Option}
use mathlib.Core.Path.{◌≡◌, refl, sym, ap, subst, ◌∙◌}
use mathlib.Core.List.{List, map}
use Prim.Native.Nat.{ℕ, ◌+◌, ◌*◌, ◌≤◌, ◌<◌}
use native.Mathlib.Omega.{arith}
use lib.IntN.{ℤ}
use lib.ListN.{length, get_or, set, length-map}
use lib.Seq.{get_or-take, get_or-set_same}
use Rattle.method.specs.words.Types.{State, blank, seconds, session_ids}
use Rattle.method.specs.words.Sessions.{accepted, refused}
use Rattle.method.specs.told.Rows.{row_numbers, rows_of, numbers_of}
use Rattle.method.specs.computed.Shift.{after}
use Rattle.method.specs.computed.Event.{read, verdict, quoted_line, applied, next}
use Rattle.method.specs.computed.Relation.{time}
use Rattle.method.specs.computed.Search.{served_by, answer}
use Rattle.method.specs.computed.Rooms.{HoldsIn}
use Rattle.method.specs.declared.Row.TheVariants as Row
use Rattle.method.specs.words.Ranges.{longest_hold}
use Rattle.rows.specs.Buffer.{written}
use Rattle.rows.proofs.Buffer.{nothing_written, numbers-one}
use Rattle.verdict.specs.declared.PlacedQuote.{PlacedQuote}
use Rattle.verdict.specs.declared.Taken.{Taken}
use Rattle.feeding.specs.Names.{Seconds, Line, Quote, ShiftLine, ReadEvent, Quoted, EventReason}
use Rattle.corridor.specs.declared.Session.{Session}
use Rattle.corridor.specs.View.{view, Ranged, Valid, moved_on}
use Rattle.due.specs.Quiet.{until}
use Rattle.corridor.specs.Reply.{served_as, left_of}
use Rattle.corridor.specs.Applied.{lines_after}
use Rattle.corridor.proofs.Views.{view-put, ranged, ranged_length}
use Rattle.corridor.proofs.Due.{row_passes}
use Rattle.corridor.proofs.DueServed.{ranged_served}
use Rattle.corridor.proofs.Ids.{ids-after, ids-applied}
use Rattle.corridor.proofs.Named.{Named, named-below, named-quoted}
use Rattle.corridor.proofs.Saying.{Changes, Takes}
use Rattle.corridor.proofs.Events.{refused-is, accepted-is, changes_after, event-taken}
use Rattle.corridor.proofs.Theorems.{valid-event}
use Rattle.feeding.proofs.Quiet.{Quiet, quiet_start, quiet_serves, quiet_tick, quiet_quoted, idle}
use Rattle.feeding.proofs.Feeding.{Piece, Ahead, ahead_turn, row_fits, rows_fit}

-- ---- the holds that are due by t are served: x is the session then, and their rows stand in now' up to at'
pub record Caught (s : Session) (t : Seconds) (at : ℕ) (now : List ℤ) (x : Session) (quiet : Seconds) (at' : ℕ) (now' : List ℤ) : Type 0 where
  pub served : x ≡ served_as s (served_by t (view s))
  pub on : at' ≡ at + 6 * length (served_by t (view s))
  pub told : now' ≡ written now at (numbers_of (map Row.Shift (served_by t (view s))))
  pub none-due : Quiet quiet (view x)

module _ (s : Session) (t : Seconds) (at : ℕ) (now : List ℤ) {x : Session} {quiet : Seconds} {at' : ℕ} {now' : List ℤ} where
  -- before the quiet second nothing is due
  pub caught_none : (q : Seconds) → Valid s → Quiet q (view s) → t.0 < q.0 → now' ≡ now → x ≡ s → quiet ≡ q → at' ≡ at → Caught s t at now x quiet at' now'
  caught_none q v h g en es eq ea =
      let none = quiet_serves q t (view s) v.sound.exact h g in
      record {
        served = es ∙ idle s t v none;
        on = rw none (omega (arith, ea));
        told = rw none (en ∙ nothing_written now at);
        none-due = rw (eq, es) h;
      }

  -- from that second on what is due is served, and the quiet second is to be found anew
  pub caught_served : (cs : List ShiftLine) → cs ≡ served_by t (view s) → x ≡ served_as s (served_by t (view s)) → now' ≡ written now at (numbers_of (map Row.Shift cs))
      → quiet ≡ seconds 0 → at' ≡ at + 6 * length cs → Caught s t at now x quiet at' now'
  caught_served cs ec ex en eq ea = record { served = ex; on = rw ec at ea; told = rw ec at en; none-due = rw eq (quiet_start (view x)) }

-- ---- the second before which nothing is due, after what an event changes
abbrev quoted-at : Session → PlacedQuote → Line
quoted-at s p = quoted_line s.near s.left p.quote (get_or s.lines p.place blank)

abbrev until-after : Session → Seconds → Option PlacedQuote → Seconds
until-after s quiet None = quiet
until-after s quiet (Some p) = until quiet s.hold (quoted-at s p).holds

applied-set : (s : State) (q : Quote) (p : ℕ) → Named q.id s.lines p
    → (applied (Ok (Quoted q)) s).lines ≡ set s.lines p (quoted_line s.near s.left q (get_or s.lines p blank))
unfolding applied
applied-set s q p named = named-quoted s.near s.left q s.lines p named

quiet_changed : (s : Session) (quiet : Seconds) (e : ReadEvent) (c : Option PlacedQuote) → Ranged s → Changes (view s) e c → Quiet quiet (view s)
    → Quiet (until-after s quiet c) (applied e (view s))
quiet_changed s quiet e None v said h = rw said (quiet_tick quiet (time e) (view s) h)
quiet_changed s quiet e (Some p) v (said, named) h =
    let below = named-below p.quote.id (view s).lines p.place named in
    let here : get_or (view s).lines p.place blank ≡ get_or s.lines p.place blank = get_or-take s.count s.lines p.place blank (omega (arith, below, ranged_length v)) in
    let set_in : (applied (Ok (Quoted p.quote)) (view s)).lines ≡ set (view s).lines p.place (quoted-at s p) =
    applied-set (view s) p.quote p.place named
    ∙ ap (λ (l : Line). set (view s).lines p.place (quoted_line s.near s.left p.quote l)) here in
    rw said (quiet_quoted quiet (view s) p.quote p.place (quoted-at s p) below set_in h)

-- ---- at the head of the loop: what is ahead, the ids, and the second before which nothing is due
module _ (o : Session) (b : List ℕ) (out : List ℤ) (got : List ℕ) where
  pub record Turn (s : Session) (quiet : Seconds) (at : ℕ) (rest : List ℕ) (size event : ℕ) (now : List ℤ) : Type 0 where
    pub ahead : Ahead o b out s at rest event now
    pub named : got ≡ session_ids (view s)
    pub none-due : Quiet quiet (view s)
    pub twenty : size ≡ 20

  module _ {s : Session} {quiet : Seconds} {at : ℕ} {rest : List ℕ} {size event : ℕ} {now : List ℤ} (h : Turn s quiet at rest size event now) {piece behind : List ℕ} (c : Piece rest piece behind) where
    abbrev e : ReadEvent
    e = read piece

    pub room : at + 6 ≤ length now
    room = row_fits o b out h.ahead c

    pub turn_refused : (why : EventReason) → verdict (view s) e ≡ Err why → {then : List ℤ}
        → then ≡ written now at (row_numbers (Row.RefusedEvent why (event + 1))) → Turn s quiet (at + 6) behind size (event + 1) then
    unfolding rows_of left_of
    turn_refused why said wrote =
        let is : answer (view s) e ≡ refused why = refused-is s e why said in
        record {
          ahead =
              ahead_turn o b out h.ahead c (rw is refl) (rw is refl)
              (rw is (wrote ∙ ap (written now at) (sym (numbers-one (Row.RefusedEvent why (event + 1))))));
          named = h.named;
          none-due = h.none-due;
          twenty = h.twenty;
        }

    pub shifts_fit : (v : Taken) → Takes (view s) e v → at + 6 * length (served_by v.time (view s)) ≤ length now
    unfolding rows_of
    shifts_fit v o' =
        let cs : List ShiftLine = served_by (time e) (view s) in
        let fit = rows_fit o b out h.ahead c (accepted cs) (accepted-is s e o'.accepted) in
        rw o'.timed (omega (arith, fit, length-map cs Row.Shift))

    module _ (v : Taken) (o' : Takes (view s) e v) {x : Session} {quiet' : Seconds} {at' : ℕ} {now' : List ℤ} (k : Caught s v.time at now x quiet' at' now') where
      abbrev cs : List ShiftLine
      cs = served_by (time e) (view s)

      -- in the words of the event's own time
      told-by : served_by v.time (view s) ≡ cs
      told-by = ap (λ (t : Seconds). served_by t (view s)) o'.timed

      caught_view : view x ≡ after cs (view s)
      caught_view = ap view (k.served ∙ ap (served_as s) told-by) ∙ view-put s (after cs (view s))

      caught_ranged : Ranged x
      caught_ranged = rw k.served (ranged_served s v.time h.ahead.valid)

      caught_changes : (ch : Option PlacedQuote) → v.change ≡ ch → Changes (view x) e ch
      caught_changes ch ec = subst (λ (y : State). Changes y e ch) (sym caught_view) (changes_after cs (view s) e ch (subst (Changes (view s) e) ec o'.changes))

      -- the session that is handed on is valid, so the holds of the quoted line are in their range
      pub turn_holds : (p : PlacedQuote) → v.change ≡ Some p → (m : Line) → m ≡ quoted-at x p → HoldsIn m.holds × (x.hold.0 ≤ longest_hold)
      turn_holds p ec m em =
          let named = (caught_changes (Some p) ec).1 in
          let below = named-below p.quote.id (view x).lines p.place named in
          let inside : p.place < x.count = omega (arith, below, ranged_length caught_ranged) in
          let z : Session = moved_on x (lines_after x (Some p)) v.time in
          let valid : Valid z = subst Valid (sym (event-taken s e v x o' k.served (Some p) ec z refl)) (valid-event s piece h.ahead.valid) in
          let passes = row_passes {s = z} p.place (ranged valid) inside in
          let stands : get_or (view z).lines p.place blank ≡ m =
          get_or-take x.count (lines_after x (Some p)) p.place blank inside
          ∙ get_or-set_same x.lines p.place (quoted-at x p) blank (omega (arith, inside, caught_ranged.few, caught_ranged.full)) ∙ sym em in
          (subst (λ (l : Line). HoldsIn l.holds) stands passes.0, passes.1)

      pub turn_taken : (ch : Option PlacedQuote) → v.change ≡ ch → (z : Session) → z ≡ moved_on x (lines_after x ch) v.time → (later : Seconds)
          → later ≡ until-after x quiet' ch → Turn z later at' behind size (event + 1) now'
      unfolding rows_of left_of next
      turn_taken ch ec z ez later el =
          record {
            ahead =
                ahead_turn o b out h.ahead c left
                (k.on ∙ rw (is, told-by) (ap (λ (n : ℕ). at + 6 * n) (sym (length-map cs Row.Shift)))) (k.told ∙ rw (is, told-by) refl);
            named = h.named ∙ sym (ap session_ids then_view ∙ ids-applied e (after cs (view s)) ∙ ids-after cs (view s));
            none-due = rw (then_view, el) later_quiet;
            twenty = h.twenty;
          }
        where
          is : answer (view s) e ≡ accepted cs
          is = accepted-is s e o'.accepted

          left : z ≡ left_of s e (answer (view s) e)
          left = event-taken s e v x o' k.served ch ec z ez

          then_view : view z ≡ applied e (after cs (view s))
          then_view = ap view (left ∙ ap (left_of s e) is) ∙ view-put s (applied e (after cs (view s)))

          later_quiet : Quiet (until-after x quiet' ch) (applied e (after cs (view s)))
          later_quiet = subst (λ (y : State). Quiet (until-after x quiet' ch) (applied e y)) caught_view (quiet_changed x quiet' e ch caught_ranged (caught_changes ch ec) k.none-due)
