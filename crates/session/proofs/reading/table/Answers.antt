-- The header, and behind it as much as it says, are what was read.
use Rattle.std.proofs.Common.{◌≡◌, ℕ, ◌+◌, ◌-◌, ◌≤◌, length, take, drop, List, ◌++◌, sym, ap, subst, ◌∙◌, arith}
use Rattle.std.proofs.Math.Seq.{take-append-le, take_at, length-take-le}
use borrow.Rule.Slice.PartMut.{put_mid, same_len_mid, mid_len}
use Rattle.method.specs.words.Layout.{header_of}
use Rattle.session.specs.Reading.{table_end}
use Rattle.filling.specs.Filled.{FilledFrom}
use Rattle.filling.proofs.Taken.{taken_on}
use Rattle.session.proofs.Tables.{end_in, header-long, room-long, read_header_long, header-short, header-and-rest}
use Rattle.session.proofs.reading.table.Goals as goal

pub slice_bounds-fill-end-2 : goal.slice_bounds-fill-end-2
slice_bounds-fill-end-2 g c = header-long c.args.room.now (omega arith)

pub returns-then-got-lt40-clause-table : goal.returns-then-got-lt40-clause-table
returns-then-got-lt40-clause-table g c =
    let header = c.fill.new.room in
    let long : length header ≡ 40 = omega (arith, c.fill.auto.room, header-long c.args.room.now (omega arith)) in
    header-short _ _ c.in_ok-got.got header _ long c.if-got-lt40.true c.in_ok-got.ensures.filled
    (take-append-le c.in_ok-got.got header (drop 40 c.args.room.now) c.in_ok-got.ensures.within.0)

pub table_end-end-requires : goal.table_end-end-requires
table_end-end-requires g c =
    omega (arith, read_header_long c.fill.new.room c.args.room.now c.fill.auto.room (omega arith))

pub slice_bounds-fill-count : goal.slice_bounds-fill-count
slice_bounds-fill-count g c = (end_in _ c.table_end-end.ensures).least

pub slice_bounds-fill-start : goal.slice_bounds-fill-start
slice_bounds-fill-start g c = (end_in _ c.table_end-end.ensures).least

pub slice_bounds-fill-end-3 : goal.slice_bounds-fill-end-3
slice_bounds-fill-end-3 g c =
    let end = end_in _ c.table_end-end.ensures in
    omega (arith, end.most, room-long c.fill.new.room c.args.room.now c.fill.auto.room (omega arith))

pub returns-clause-within : goal.returns-clause-within
returns-clause-within g c =
    let before = c.fill.new.room ++ drop 40 c.args.room.now in
    let end = c.table_end-end.result in
    let bounds = end_in _ c.table_end-end.ensures in
    let fits : end ≤ length before =
    omega (arith, bounds.most, room-long c.fill.new.room c.args.room.now c.fill.auto.room (omega arith)) in
    let long = mid_len 40 end before fits in
    let kept = same_len_mid 40 (end - 40) before c.fill-2.new.room c.fill-2.auto.room in
    let few : 40 + c.in_ok-more.more ≤ length (put_mid 40 (end - 40) before c.fill-2.new.room) =
    omega (arith, bounds.least, long, kept, c.fill-2.auto.room, c.in_ok-more.ensures.within.0) in
    (few, sym (length-take-le _ _ few))

pub returns-clause-table : goal.returns-clause-table
returns-clause-table g c =
    let header = c.fill.new.room in
    let rest = c.fill-2.new.room in
    let end = c.table_end-end.result in
    let bounds = end_in _ c.table_end-end.ensures in
    let before = header ++ drop 40 c.args.room.now in
    let long : length header ≡ 40 = omega (arith, c.fill.auto.room, header-long c.args.room.now (omega arith)) in
    let front : take 40 before ≡ header = take_at header (drop 40 c.args.room.now) 40 long in
    let fits : end ≤ length before =
    omega (arith, bounds.most, room-long header c.args.room.now c.fill.auto.room (omega arith)) in
    let part : length rest ≡ end - 40 = c.fill-2.auto.room ∙ mid_len 40 end before fits in
    let whole : 40 + length rest ≡ end = omega (arith, part, bounds.least) in
    let ends : 40 + length rest ≡ table_end (header_of header) =
    whole ∙ c.table_end-end.ensures ∙ ap (λ (h : List ℕ). table_end (header_of h)) front in
    let got : c.in_ok-got.got ≡ 40 = omega (arith, c.in_ok-got.ensures.within.0) in
    let first = subst (λ (n : ℕ). FilledFrom (g.R.Read.remaining c.args.input.now) (g.R.Read.remaining c.fill.new.input) n header) got c.in_ok-got.ensures.filled in
    let joined = taken_on 40 (end - 40) c.in_ok-more.more before rest (omega (arith, fits, bounds.least)) c.in_ok-more.ensures.within.0 in
    header-and-rest _ _ _ c.in_ok-more.more header rest _ long ends c.in_ok-more.ensures.within.0 first c.in_ok-more.ensures.filled
    (joined ∙ ap (λ (h : List ℕ). h ++ take c.in_ok-more.more rest) front)
