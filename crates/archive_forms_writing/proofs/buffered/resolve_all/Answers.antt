use Rattle.std.proofs.Common.{Err, rules, arith, ◌≡◌, ◌+◌, ◌≤◌, length, ap, sym, ◌∙◌}
use Rattle.archive_shape_layout.specs.Shape.{size_of}
use Rattle.archive_shape_canonical.specs.FirstFit.{first_fit}
use Rattle.archive_forms_writing.proofs.Loops.{next_of, none_left, length-resolvers}
use Rattle.archive_forms_writing.proofs.Batches.{blank_there, filling_next, buffered_refuses, all_filled, next_within, next_kept}
use Rattle.archive_forms_writing.proofs.buffered.resolve_all.Goals as goal

pub resolve_at-requires-clause-blank : goal.resolve_at-requires-clause-blank
resolve_at-requires-clause-blank g c =
    let size = size_of g.A.Archived.Portable.shape in
    let within = next_within c.loop-i.i (length c.args.items.now) size c.loop-i-test.true in
    let roomy : c.loop-i.filled + size ≤ length c.loop-i.buffer = omega (arith, within, c.loop-i.invariant.counted, c.loop-i.invariant.same, c.requires.room) in
    blank_there c.loop-i.buffer c.loop-i.filled size roomy c.loop-i.invariant.filling.blank

pub resolve_at-requires-clause-room : goal.resolve_at-requires-clause-room
resolve_at-requires-clause-room g c =
    let size = size_of g.A.Archived.Portable.shape in
    let within = next_within c.loop-i.i (length c.args.items.now) size c.loop-i-test.true in
    omega (arith, within, c.loop-i.invariant.counted, c.loop-i.invariant.same, c.requires.room)

pub resolve_at-requires-clause-stands : goal.resolve_at-requires-clause-stands
resolve_at-requires-clause-stands g c =
    let size = size_of g.A.Archived.Portable.shape in
    let within = next_within c.loop-i.i (length c.args.items.now) size c.loop-i-test.true in
    omega (arith, within, c.loop-i.invariant.counted, c.requires.stands)

pub resolve_at-requires-clause-made : goal.resolve_at-requires-clause-made
resolve_at-requires-clause-made g c =
    let made = c.requires.made in
    let n : length c.args.kept.now ≡ length c.args.items.now = ap length made.1 ∙ length-resolvers (g.A.ArchiveWith.spelling c.args.with.now) c.args.items.now made.0 in
    let e = next_of _ _ _ c.loop-i-test.true c.index-items-i.is in
    let f = next_of c.args.kept.now c.loop-i.i _ (omega (arith, c.loop-i-test.true, n)) c.index-kept-i.is in
    let h = c.loop-i.invariant.filling.placed made.0 made.1 in
    (h.from, (next_kept _ _ _ _ _ _ _ c.loop-i.i _ _ _ _ _ e f h).0)

pub offset_bounds-kept-i : goal.offset_bounds-kept-i
offset_bounds-kept-i g c =
    let made = c.requires.made in
    let n : length c.args.kept.now ≡ length c.args.items.now = ap length made.1 ∙ length-resolvers (g.A.ArchiveWith.spelling c.args.with.now) c.args.items.now made.0 in omega (arith, c.loop-i-test.true, n)

pub returns-in_err-resolve_at : goal.returns-in_err-resolve_at
returns-in_err-resolve_at g c = λ st is.
    let n : length c.args.kept.now ≡ length c.args.items.now = ap length is ∙ length-resolvers (g.A.ArchiveWith.spelling c.args.with.now) c.args.items.now st in
    let e = next_of _ _ _ c.loop-i-test.true c.index-items-i.is in
    let f = next_of c.args.kept.now c.loop-i.i _ (omega (arith, c.loop-i-test.true, n)) c.index-kept-i.is in
    let passed : c.from_residual.result ≡ Err c.in_err-resolve_at.field-0.0 = search rules in
    rw passed (buffered_refuses _ _ _ _ _ _ _ c.loop-i.i _ c.loop-i.filled _ _ _ _ e f (c.loop-i.invariant.filling.placed st is) c.in_err-resolve_at.ensures)

pub loop-i-preserved : goal.loop-i-preserved
loop-i-preserved g c =
    let made = c.requires.made in
    let n : length c.args.kept.now ≡ length c.args.items.now = ap length made.1 ∙ length-resolvers (g.A.ArchiveWith.spelling c.args.with.now) c.args.items.now made.0 in
    let e = next_of _ _ _ c.loop-i-test.true c.index-items-i.is in
    let f = next_of c.args.kept.now c.loop-i.i _ (omega (arith, c.loop-i-test.true, n)) c.index-kept-i.is in
    let fit = c.in_ok-resolve_at.ensures.0 in
    let sh = g.A.Archived.Portable.shape in
    let x = c.index-items-i.result in
    let k = c.index-kept-i.result in
    let at = c.loop-i.filled in
    let size : c.SIZE-size.result ≡ size_of sh = omega (arith, fit.1, c.SIZE-size.ensures, g.met.A.Archived.Portable.sized) in
    let own = (g.met.A.ArchiveWith.spells c.args.with.now (first_fit (λ _. 0)) x).sized k (c.args.pos + at) fit.0 in
    let within = next_within c.loop-i.i (length c.args.items.now) (size_of sh) c.loop-i-test.true in
    let next = filling_next _ _ _ _ _ _ c.loop-i.i _ at c.SIZE-size.result c.loop-i.buffer c.resolve_at.new.buffer x k e f (omega (arith, within, size, c.loop-i.invariant.counted, c.loop-i.invariant.same, c.requires.room)) c.loop-i.invariant.filling (size ∙ sym own) c.in_ok-resolve_at.ensures.1 fit in
    record { same = search rules; counted = omega (arith, size, c.loop-i.invariant.counted); filling = next }

pub returns : goal.returns
returns g c = λ st is.
    let all = all_filled _ _ _ _ _ _ c.loop-i.i c.loop-i.filled c.loop-i.buffer (none_left _ _ c.loop-i-test.false) (c.loop-i.invariant.filling.placed st is) in
    (c.loop-i.invariant.filling.within, all.0, all.1)
