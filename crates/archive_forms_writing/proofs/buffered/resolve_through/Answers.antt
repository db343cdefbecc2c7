use Rattle.std.proofs.Common.{Err, rules, arith, ◌≡◌, ◌+◌, ◌≤◌, ◌^◌, length, ap, sym, subst, ◌∙◌}
use Rattle.archive_shape_layout.specs.Shape.{size_of}
use Rattle.archive_shape.specs.Bytes.{overwrite}
use Rattle.archive_forms_laws.specs.Regions.{placed_fits, placed_refused}
use Rattle.archive_shape_canonical.specs.FirstFit.{first_fit}
use Rattle.archive_forms_writing.proofs.Loops.{next_of, none_left, length-resolvers}
use Rattle.archive_forms_writing.proofs.Batches.{Filling, blank_there, filling_moved, filling_flushed, filling_next, buffered_refused, buffered_past, buffered_stopped, all_laid}
use Rattle.archive_forms_writing.proofs.buffered.resolve_through.Goals.{then-room-filled+in_ok-flush+else-room-size, else-room-filled}
use Rattle.archive_forms_writing.proofs.buffered.resolve_through.Goals as goal

pub returns-in_err-flush : goal.returns-in_err-flush
returns-in_err-flush g c = λ st made.
    let passed : c.from_residual.result ≡ Err c.in_err-flush.field-0.0 = search rules in
    rw passed (buffered_stopped _ _ _ _ _ _ _ c.loop-i.i _ _ c.loop-i.filled c.loop-i.buffer _ (c.loop-i.invariant.filling.placed st made) c.in_err-flush.ensures.writes)

pub resolve_at-requires-clause-blank : goal.resolve_at-requires-clause-blank
resolve_at-requires-clause-blank g c =
    let filling : Filling (g.A.ArchiveWith.spelling c.args.with.now) g.A.Archived.Portable.shape (record { known = g.W.Registry.known; pos = g.W.Positional.pos; OBSERVABLE = g.W.Writer.OBSERVABLE; COUNTS = g.W.Writer.COUNTS; contents = g.W.Writer.contents; failures = g.W.Writer.failures; last_error = g.W.Writer.last_error }) c.args.items.now c.args.kept.now c.args.writer.now c.loop-i.i c.if-room-filled.writer c.if-room-filled.filled c.if-room-filled.buffer = elim c.if-room-filled.branch [
      | then-room-filled+in_ok-flush+else-room-size b ↦ filling_moved _ _ _ _ _ _ c.loop-i.i b.flush.new.writer c.if-room-filled.writer 0 c.if-room-filled.filled b.flush.new.buffer c.if-room-filled.buffer (filling_flushed _ _ _ _ _ _ c.loop-i.i _ _ c.loop-i.filled c.loop-i.buffer _ c.loop-i.invariant.filling b.in_ok-flush.ensures.writes b.in_ok-flush.ensures.blank) b.writer-is b.filled-is b.buffer-is
      | else-room-filled b ↦ filling_moved _ _ _ _ _ _ c.loop-i.i _ _ _ _ _ _ c.loop-i.invariant.filling b.writer-is b.filled-is b.buffer-is
    ] in
    let roomy : c.if-room-filled.filled + size_of g.A.Archived.Portable.shape ≤ length c.if-room-filled.buffer = search rules in
    blank_there c.if-room-filled.buffer c.if-room-filled.filled (size_of g.A.Archived.Portable.shape) roomy filling.blank

pub returns-in_err-resolve_at : goal.returns-in_err-resolve_at
returns-in_err-resolve_at g c =
    let filling : Filling (g.A.ArchiveWith.spelling c.args.with.now) g.A.Archived.Portable.shape (record { known = g.W.Registry.known; pos = g.W.Positional.pos; OBSERVABLE = g.W.Writer.OBSERVABLE; COUNTS = g.W.Writer.COUNTS; contents = g.W.Writer.contents; failures = g.W.Writer.failures; last_error = g.W.Writer.last_error }) c.args.items.now c.args.kept.now c.args.writer.now c.loop-i.i c.if-room-filled.writer c.if-room-filled.filled c.if-room-filled.buffer = elim c.if-room-filled.branch [
      | then-room-filled+in_ok-flush+else-room-size b ↦ filling_moved _ _ _ _ _ _ c.loop-i.i b.flush.new.writer c.if-room-filled.writer 0 c.if-room-filled.filled b.flush.new.buffer c.if-room-filled.buffer (filling_flushed _ _ _ _ _ _ c.loop-i.i _ _ c.loop-i.filled c.loop-i.buffer _ c.loop-i.invariant.filling b.in_ok-flush.ensures.writes b.in_ok-flush.ensures.blank) b.writer-is b.filled-is b.buffer-is
      | else-room-filled b ↦ filling_moved _ _ _ _ _ _ c.loop-i.i _ _ _ _ _ _ c.loop-i.invariant.filling b.writer-is b.filled-is b.buffer-is
    ] in
    let stands : c.if-room-filled.base ≡ g.W.Positional.pos c.if-room-filled.writer = search rules in
    let made = c.requires.made in
    let n : length c.args.kept.now ≡ length c.args.items.now = ap length made.1 ∙ length-resolvers (g.A.ArchiveWith.spelling c.args.with.now) c.args.items.now made.0 in
    let e = next_of _ _ _ c.loop-i-test.true c.index-items-i.is in
    let f = next_of c.args.kept.now c.loop-i.i _ (omega (arith, c.loop-i-test.true)) c.index-kept-i.is in
    let passed : c.from_residual-in_err-resolve_at.result ≡ Err c.in_err-resolve_at.field-0.0 = search rules in
    rw passed (λ st is. buffered_refused _ _ _ _ _ _ _ c.loop-i.i _ c.if-room-filled.filled _ _ _ _ e f (filling.placed st is) (subst (λ p. placed_refused (g.A.ArchiveWith.spelling c.args.with.now) g.A.Archived.Portable.shape c.index-items-i.result c.index-kept-i.result (p + c.if-room-filled.filled) c.in_err-resolve_at.field-0.0) stands c.in_err-resolve_at.ensures))

pub returns-then-room-size : goal.returns-then-room-size
returns-then-room-size g c = λ st made.
    let sized = g.met.A.Archived.Portable.sized in
    let w = (g.A.ArchiveWith.spelling c.args.with.now) in
    let sh = g.A.Archived.Portable.shape in
    let e = next_of _ _ _ c.loop-i-test.true c.index-items-i.is in
    let flushed = filling_flushed _ _ _ _ _ _ c.loop-i.i _ _ c.loop-i.filled c.loop-i.buffer _ c.loop-i.invariant.filling c.in_ok-flush.ensures.writes c.in_ok-flush.ensures.blank in
    let past : 2 ^ 64 ≤ g.W.Positional.pos c.flush.new.writer + 0 + size_of sh = omega (arith, sized, c.requires.wide, c.SIZE-size.ensures, c.if-room-size.true, c.room_at-room-then-room-filled.ensures, c.pos-base-then-room-filled.ensures, c.pos-base-then-room-filled.type_inv) in
    buffered_past w sh _ _ _ st _ c.loop-i.i c.flush.new.writer 0 c.flush.new.buffer _ e (flushed.placed st made) past

pub loop-i-preserved : goal.loop-i-preserved
loop-i-preserved g c =
    let filling : Filling (g.A.ArchiveWith.spelling c.args.with.now) g.A.Archived.Portable.shape (record { known = g.W.Registry.known; pos = g.W.Positional.pos; OBSERVABLE = g.W.Writer.OBSERVABLE; COUNTS = g.W.Writer.COUNTS; contents = g.W.Writer.contents; failures = g.W.Writer.failures; last_error = g.W.Writer.last_error }) c.args.items.now c.args.kept.now c.args.writer.now c.loop-i.i c.if-room-filled.writer c.if-room-filled.filled c.if-room-filled.buffer = elim c.if-room-filled.branch [
      | then-room-filled+in_ok-flush+else-room-size b ↦ filling_moved _ _ _ _ _ _ c.loop-i.i b.flush.new.writer c.if-room-filled.writer 0 c.if-room-filled.filled b.flush.new.buffer c.if-room-filled.buffer (filling_flushed _ _ _ _ _ _ c.loop-i.i _ _ c.loop-i.filled c.loop-i.buffer _ c.loop-i.invariant.filling b.in_ok-flush.ensures.writes b.in_ok-flush.ensures.blank) b.writer-is b.filled-is b.buffer-is
      | else-room-filled b ↦ filling_moved _ _ _ _ _ _ c.loop-i.i _ _ _ _ _ _ c.loop-i.invariant.filling b.writer-is b.filled-is b.buffer-is
    ] in
    let roomy : c.if-room-filled.filled + size_of g.A.Archived.Portable.shape ≤ length c.if-room-filled.buffer = search rules in
    let stands : c.if-room-filled.base ≡ g.W.Positional.pos c.if-room-filled.writer = search rules in
    let made = c.requires.made in
    let n : length c.args.kept.now ≡ length c.args.items.now = ap length made.1 ∙ length-resolvers (g.A.ArchiveWith.spelling c.args.with.now) c.args.items.now made.0 in
    let e = next_of _ _ _ c.loop-i-test.true c.index-items-i.is in
    let f = next_of c.args.kept.now c.loop-i.i _ (omega (arith, c.loop-i-test.true)) c.index-kept-i.is in
    let done = c.in_ok-resolve_at.ensures in
    let w = (g.A.ArchiveWith.spelling c.args.with.now) in
    let sh = g.A.Archived.Portable.shape in
    let x = c.index-items-i.result in
    let k = c.index-kept-i.result in
    let at = c.if-room-filled.filled in
    let fit = subst (λ p. placed_fits w sh x k (p + at)) stands done.0 in
    let is = done.1 ∙ ap (λ p. overwrite c.if-room-filled.buffer at (w.own x k (p + at))) stands in
    let size : c.SIZE-size.result ≡ size_of sh = omega (arith, fit.1, c.SIZE-size.ensures, g.met.A.Archived.Portable.sized) in
    let own = (g.met.A.ArchiveWith.spells c.args.with.now (first_fit (λ _. 0)) x).sized k (g.W.Positional.pos c.if-room-filled.writer + at) fit.0 in
    let next = filling_next _ _ _ _ _ _ c.loop-i.i _ at c.SIZE-size.result c.if-room-filled.buffer c.resolve_at.new.buffer x k e f (omega (arith, roomy, size)) filling (size ∙ sym own) is fit in
    record { same = search rules; stands = search rules; within = search rules; roomy = search rules; ends = search rules; filling = next }

pub returns : goal.returns
returns g c = λ st made. all_laid _ _ _ _ _ _ _ c.loop-i.i _ _ c.loop-i.filled c.loop-i.buffer _ (none_left _ _ c.loop-i-test.false) (c.loop-i.invariant.filling.placed st made) c.write.ensures
