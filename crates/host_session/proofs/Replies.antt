-- What is told of one event that is refused, and what it leaves. Assumes nothing.
use Rattle.std.specs.Prelude.{Err, false}
use Rattle.std.specs.Ordering.{is_le, nat_cmp}
use Rattle.std.proofs.lemmas.Bool.Decides.{nat_tests}
use mathlib.Core.Path.{◌≡◌, refl}
use mathlib.Core.List.{List, []}
use Prim.Native.Nat.{ℕ, ◌<◌}
use native.Mathlib.Omega.{arith}
use Rattle.method.specs.words.Sessions.{refused}
use Rattle.method.specs.computed.Event.{read}
use Rattle.method.specs.computed.Search.{answer, served_by}
use Rattle.corridor.specs.View.{view, Valid}
use Rattle.corridor.specs.Reply.{shifts_told, left_of}
use Rattle.corridor.specs.Engine.{reply_to, session_after}
use Rattle.feeding.specs.Quiet.{quiet_until}
use Rattle.feeding.proofs.Quiet.{quiet_first, quiet_serves}
use Rattle.host_session.specs.Names.{Seconds, EventReason, Session}

-- ---- a refusal
pub refused-told : (s : Session) (b : List ℕ) (why : EventReason) → answer (view s) (read b) ≡ refused why → Err why ≡ reply_to s b
unfolding shifts_told
refused-told s b why e = rw e refl

-- it leaves the session as it was
pub refused-stays : (s : Session) (b : List ℕ) (why : EventReason) → answer (view s) (read b) ≡ refused why → s ≡ session_after s b
unfolding left_of
refused-stays s b why e = rw e refl

-- ---- before the quiet second nothing is due
pub nothing-due : (s : Session) (t q : Seconds) → Valid s → q ≡ quiet_until (view s) → false ≡ is_le (nat_cmp q.0 t.0) → served_by t (view s) ≡ []
nothing-due s t q v e h =
    let before : t.0 < q.0 = grind (arith, nat_tests) in quiet_serves (quiet_until (view s)) t (view s) v.sound.exact (quiet_first (view s)) (rw e at before)
