-- Each chunk's bytes are what was read, and its text what is written.
use Rattle.std.proofs.Common.{◌≡◌, ◌≤◌, take, length, subst, arith}
use Rattle.std.specs.Io.KnownBytes.{Appends}
use Rattle.session.proofs.Going.{nothing_read, reached, reached-valid, reached-more, going_on, all_told}
use Rattle.session.proofs.chunks.answer_events.Goals as goal

pub loop-init : goal.loop-init
loop-init g c = nothing_read c.args.session.now (g.R.Read.remaining c.args.input.now) (g.W.Write.contents c.args.output.now)

pub returns-in_err-size-clause-reached : goal.returns-in_err-size-clause-reached
returns-in_err-size-clause-reached g c = reached c.loop.invariant

pub chunk-told-requires : goal.chunk-told-requires
chunk-told-requires g c =
    let sizes = c.loop.room.sizes in
    let few : length (take c.in_ok-size.size c.fill.new.room) ≤ 40960 = omega (arith, c.in_ok-size.ensures.within.0, c.in_ok-size.ensures.within.1, c.fill.auto.room) in (
      reached-valid c.requires (reached c.loop.invariant),
      omega arith,
      omega arith,
    )

pub returns-in_err-write_all-clause-reached : goal.returns-in_err-write_all-clause-reached
returns-in_err-write_all-clause-reached g c = reached-more c.loop.invariant _ c.chunk-told.ensures.session_after

pub returns-then-size-lt-CHUNK_BYTES-clause-reached : goal.returns-then-size-lt-CHUNK_BYTES-clause-reached
returns-then-size-lt-CHUNK_BYTES-clause-reached g c = reached-more c.loop.invariant _ c.chunk-told.ensures.session_after

pub returns-then-size-lt-CHUNK_BYTES-clause-told : goal.returns-then-size-lt-CHUNK_BYTES-clause-told
returns-then-size-lt-CHUNK_BYTES-clause-told g c =
    let said = subst (Appends _ _) c.chunk-told.ensures.begins.same c.in_ok-write_all.ensures.bytes in
    let filled = c.in_ok-size.ensures.filled in
    let long : length c.fill.new.room ≡ 40960 = omega (arith, c.fill.auto.room, c.loop.room.sizes) in
    all_told c.loop.invariant _ c.chunk-told.ensures.session_after (g.R.Read.remaining c.fill.new.input) (g.W.Write.contents c.write_all.new.self) filled.taken said (filled.ended (omega arith))

pub loop-preserved : goal.loop-preserved
loop-preserved g c =
    let said = subst (Appends _ _) c.chunk-told.ensures.begins.same c.in_ok-write_all.ensures.bytes in
    let long : length c.fill.new.room ≡ 40960 = omega (arith, c.fill.auto.room, c.loop.room.sizes) in
    going_on c.loop.invariant _ c.chunk-told.ensures.session_after (g.R.Read.remaining c.fill.new.input) (g.W.Write.contents c.write_all.new.self) c.in_ok-size.ensures.filled.taken said
    (omega (arith, c.in_ok-size.ensures.within.0, c.in_ok-size.ensures.within.1))

pub returns-clause-reached : goal.returns-clause-reached
returns-clause-reached g c = reached c.loop.invariant
