-- Ticks are free: a theorem for each statement of laws/Ticks. Assumes nothing.
use mathlib.Core.Path.{sym, ◌∙◌, subst}
use mathlib.Core.List.{◌∷◌, ◌++◌, append_assoc}
use Rattle.method.specs.words.Types.{State}
use Rattle.method.specs.words.Events.{Unknown, tick_taken, quote_taken}
use Rattle.method.specs.words.Rules.{Opens}
use Rattle.method.specs.laws.Ticks.{Repeats, TicksAreFree, TickAcceptable, RepeatAcceptable, ThinnedIsSame, AlikeIsSame, PutIsAlike}
use Rattle.method.specs.computed.Sound.{Proper}
use Rattle.method.proofs.TableAnswered.{answered_table}
use Rattle.method.proofs.EventAnswered.{answered_verdict}
use Rattle.method.proofs.OneSession.{told-from, opens_proper, run_in_words}
use Rattle.method.proofs.Acceptable.{repeat_open, in_session-between}
use Rattle.method.proofs.Thinning.{after-past, whole, without-refused, with_it, thinned_same}

-- ---- many at once
pub thinned_is_same : ThinnedIsSame
thinned_is_same s bs ds p t = thinned_same p t

pub alike_is_same : AlikeIsSame
alike_is_same s bs ds p a rs qs m n h k =
    let its = run_in_words s p.sound p.distinct a.common in
    let one = thinned_same p a.one rs _ m _ h its in
    let other = thinned_same p a.other qs _ n _ k its in
    (one.0 ∙ sym other.0, one.1 ∙ sym other.1)

pub put_is_alike : PutIsAlike
put_is_alike o p past told s h b between f put rest =
    let w : Proper s = (told-from o p h).proper in
    record {
      common = past ++ f ∷ rest;
      one = rw append_assoc (after-past h (without-refused s between put.between_refused (whole s (f ∷ rest) w)));
      other = rw append_assoc (after-past h (with_it s b between f rest w put));
    }

-- ---- one event put in
pub free_from_kept : TicksAreFree Proper
free_from_kept o p past told s h b between f put rest = alike_is_same o _ _ p (put_is_alike o p past told s h b between f put rest)

pub ticks_are_free : TicksAreFree Opens
ticks_are_free o q = free_from_kept o (opens_proper o q)

-- ---- that there is always such an event
pub tick-acceptable : TickAcceptable
tick-acceptable s b f t a c l = tick_taken t (in_session-between s b f (answered_verdict s f a) c l)

pub repeat-acceptable : RepeatAcceptable
repeat-acceptable o q past told s h b f r its a c l =
    let w = told-from o (opens_proper o q) h in
    let open_book = repeat_open q.table o (answered_table q.table q.opened_by) past told w.answers b
    (subst (λ (k : State). Repeats k b) w.is r) (subst (λ (k : State). Unknown k b → ⊥) w.is its) in
    quote_taken r.quote (in_session-between s b f (answered_verdict s f a) c l) its open_book
