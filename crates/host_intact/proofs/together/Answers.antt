-- `host_intact::together`: the ids and the first hold of the lines so far, and at the end those of all lines.
use Rattle.std.specs.Prelude.{None, Some}
use Rattle.std.proofs.Common.{◌≡◌, ℕ, ◌<◌, ◌≤◌, Bool, List, map, length, take, arith, sym, ap, subst, ◌∙◌, true, false, not}
use lib.ListN.{drop_of_length-le}
use lib.Seq.{take_all}
use Rattle.std.specs.Option.{is_some}
use Rattle.numbers.specs.Decides.{Decides}
use Rattle.method.specs.words.Types.{session_ids}
use Rattle.method.specs.words.Ranges.{longest_hold}
use Rattle.method.specs.computed.Opening.{ids}
use Rattle.method.specs.computed.Rooms.{HoldsIn}
use Rattle.method.specs.computed.Search.{in_time, earliest, next_due}
use Rattle.method.specs.computed.Sound.{Distinct}
use Rattle.method.specs.computed.Types.{Found}
use Rattle.method.proofs.FirstFound.{nothing-at}
use Rattle.corridor.specs.declared.Session.{Session}
use Rattle.corridor.specs.View.{view}
use Rattle.host_row.specs.Packed.{line_in}
use Rattle.host_memory.specs.Names.{Line}
use Rattle.host_memory.specs.Memory.{session_in}
use Rattle.host_memory.proofs.Places.{full_in}
use Rattle.host_intact.proofs.Whole.{pairs_long, pair_at}
use Rattle.host_intact.proofs.together.Goals as goal

pub passed-best-requires : goal.passed-best-requires
passed-best-requires c =
    let s = session_in c.args.session.now in
    let pairs = c.lines-pair-items.result.now in
    let few : s.count ≤ length s.lines = omega (arith, c.requires.0.few, full_in c.args.session.now c.told-session) in
    let inside : c.loop-place.place < s.count = omega (arith, pairs_long pairs s.count s.lines c.lines-pair-items.ensures few) in
    let line = pair_at pairs s.count s.lines c.lines-pair-items.ensures few c.loop-place.place inside in (
      subst HoldsIn (sym (c.holds.ensures ∙ ap (λ (l : Line). l.holds) line)) (c.requires.1 c.loop-place.place inside).0.holds,
      subst (λ (z : Session). z.hold.0 ≤ longest_hold) c.head-head.ensures c.requires.0.hold.most,
    )

-- nothing found is the answer yes
none_decides : {X : Type 0} (n d : Found) (r : Bool) → X → n ≡ d → is_some d ≡ not r → Decides r (X × (n ≡ None))
none_decides n None true x e f = (x, e)
none_decides n None false x e f = absurd (cc)
none_decides n (Some y) true x e f = absurd (cc)
none_decides n (Some y) false x e f = λ q. nothing-at (sym q.1 ∙ e)

pub returns-then-distinct : goal.returns-then-distinct
unfolding earliest next_due
returns-then-distinct c =
    let s = session_in c.args.session.now in
    let read = c.head-head.ensures in
    let pairs = c.lines-pair-items.result.now in
    let lines : map line_in pairs ≡ (view s).lines = c.lines-pair-items.ensures in
    let i = c.loop-place.place in
    let best = c.loop-place.best in
    let here : length pairs ≤ i = c.loop-place-test.false in
    let whole : take i pairs ≡ pairs = take_all i pairs here in
    let named : c.deref.result.now ≡ session_ids (view s) =
    c.deref.ensures.0 ∙ c.loop-place.invariant.ids ∙ ap (λ (ps : List (List (List ℕ))). ids (map line_in ps)) whole ∙ ap ids lines in
    let last : best ≡ earliest c.head-head.result.hold 0 (map line_in pairs) None = rw (drop_of_length-le pairs here) at c.loop-place.invariant.best in
    let first : earliest s.hold 0 (view s).lines None ≡ best = (λ j. earliest (read j).hold 0 (sym lines j) None) ∙ sym last in
    none_decides (next_due s.clock (view s)) c.in_time.result c.is_none.result (subst Distinct named c.if-distinct.ensures)
    ((λ j. in_time (read j).clock (read j).end (read j).left (first j)) ∙ sym c.in_time.ensures) c.is_none.ensures
