use Rattle.std.proofs.Common.{Err, rules, ◌≡◌, ◌+◌, ◌≤◌, length, arith, refl, sym, ap, ◌∙◌, inl}
use Rattle.std.proofs.lemmas.List.{length-map}
use Rattle.archive_shape_layout.specs.Shape.{size_of}
use Rattle.archive_shape_layout.specs.Writing.{WriterMembers}
use Rattle.archive_shape_canonical.specs.FirstFit.{first_fit}
use Rattle.archive_hash_writing.specs.Standing.{standing}
use Rattle.archive_hash_writing.proofs.Filling.{filling_none, filling_failed, filling_all}
use Rattle.archive_hash_writing.proofs.Ready.{ready, left_zero, resolver_left, can_be_resolved, put_there, refused_there}
use Rattle.archive_hash_writing.proofs.buckets.write_through.Goals.{in-Some+in_ok-resolve_bucket, in_default}
use Rattle.archive_hash_writing.proofs.buckets.write_through.Goals as goal

pub loop-p-init : goal.loop-p-init
loop-p-init g c = record { same = refl; filling = filling_none _ _ _ _ _ _ _ _ _ _ (sym (length-map c.args.table.now standing)) refl refl c.requires.blank }

pub make_room-requires-clause-room : goal.make_room-requires-clause-room
make_room-requires-clause-room g c = let b = c.loop-p.invariant.filling.placed c.requires.made.0 c.requires.made.1 in omega (arith, b.wrote.is_quiet, c.requires.room)

pub returns-in_err-filled : goal.returns-in_err-filled
returns-in_err-filled g c =
    let failed : c.from_residual.result ≡ Err c.in_err-filled.field-0.0 = search rules in
    rw failed
    (λ st made. filling_failed _ _ _ _ _ _ c.loop-p.p _ _ _ _ _ _ _ _ c.loop-p.invariant.filling c.in_err-filled.ensures st made)

pub overflow_sub-left : goal.overflow_sub-left
overflow_sub-left g c =
    let s : WriterMembers g.row.W.Denot = record { known = g.W.Registry.known; pos = g.W.Positional.pos; OBSERVABLE = g.W.Writer.OBSERVABLE; COUNTS = g.W.Writer.COUNTS; contents = g.W.Writer.contents; failures = g.W.Writer.failures; last_error = g.W.Writer.last_error } in
    let wide : size_of g.A.Archived.Portable.shape ≤ length c.loop-p.buffer = omega (arith, c.requires.wide, c.loop-p.invariant.same) in
    let r = ready (g.A.ArchiveWith.spelling c.args.with.now) g.A.Archived.Portable.shape s c.args.table.now c.args.kept.now c.args.writer.now c.SIZE-size.result _ _ _ c.loop-p-test.true c.requires.stands (c.SIZE-size.ensures ∙ g.met.A.Archived.Portable.sized) wide c.loop-p.invariant.filling c.in_ok-filled.ensures in
    let kept = resolver_left _ _ _ _ _ _ c.loop-p.auto.p r _ c.in-Some.item c.in-Some.is c.requires.made.0 c.requires.made.1 in
    omega (arith, kept.0)

pub bounds-kept-left : goal.bounds-kept-left
bounds-kept-left g c =
    let s : WriterMembers g.row.W.Denot = record { known = g.W.Registry.known; pos = g.W.Positional.pos; OBSERVABLE = g.W.Writer.OBSERVABLE; COUNTS = g.W.Writer.COUNTS; contents = g.W.Writer.contents; failures = g.W.Writer.failures; last_error = g.W.Writer.last_error } in
    let wide : size_of g.A.Archived.Portable.shape ≤ length c.loop-p.buffer = omega (arith, c.requires.wide, c.loop-p.invariant.same) in
    let r = ready (g.A.ArchiveWith.spelling c.args.with.now) g.A.Archived.Portable.shape s c.args.table.now c.args.kept.now c.args.writer.now c.SIZE-size.result _ _ _ c.loop-p-test.true c.requires.stands (c.SIZE-size.ensures ∙ g.met.A.Archived.Portable.sized) wide c.loop-p.invariant.filling c.in_ok-filled.ensures in
    let kept = resolver_left _ _ _ _ _ _ c.loop-p.auto.p r _ c.in-Some.item c.in-Some.is c.requires.made.0 c.requires.made.1 in
    kept.1

pub resolve_bucket-requires : goal.resolve_bucket-requires
resolve_bucket-requires g c =
    let s : WriterMembers g.row.W.Denot = record { known = g.W.Registry.known; pos = g.W.Positional.pos; OBSERVABLE = g.W.Writer.OBSERVABLE; COUNTS = g.W.Writer.COUNTS; contents = g.W.Writer.contents; failures = g.W.Writer.failures; last_error = g.W.Writer.last_error } in
    let wide : size_of g.A.Archived.Portable.shape ≤ length c.loop-p.buffer = omega (arith, c.requires.wide, c.loop-p.invariant.same) in
    let r = ready (g.A.ArchiveWith.spelling c.args.with.now) g.A.Archived.Portable.shape s c.args.table.now c.args.kept.now c.args.writer.now c.SIZE-size.result _ _ _ c.loop-p-test.true c.requires.stands (c.SIZE-size.ensures ∙ g.met.A.Archived.Portable.sized) wide c.loop-p.invariant.filling c.in_ok-filled.ensures in
    can_be_resolved _ _ _ _ _ _ c.loop-p.auto.p r _ c.in-Some.item c.in-Some.is _ c.index-kept-left.is c.requires.made.0 c.requires.made.1 _ (ap (λ n. n + c.in_ok-filled.filled) c.pos.ensures)

pub returns-in_err-resolve_bucket : goal.returns-in_err-resolve_bucket
returns-in_err-resolve_bucket g c =
    let failed : c.from_residual-in_err-resolve_bucket.result ≡ Err c.in_err-resolve_bucket.field-0.0 = search rules in
    rw failed
    (λ st made.
    let s : WriterMembers g.row.W.Denot = record { known = g.W.Registry.known; pos = g.W.Positional.pos; OBSERVABLE = g.W.Writer.OBSERVABLE; COUNTS = g.W.Writer.COUNTS; contents = g.W.Writer.contents; failures = g.W.Writer.failures; last_error = g.W.Writer.last_error } in
    let wide : size_of g.A.Archived.Portable.shape ≤ length c.loop-p.buffer = omega (arith, c.requires.wide, c.loop-p.invariant.same) in
    let r = ready (g.A.ArchiveWith.spelling c.args.with.now) g.A.Archived.Portable.shape s c.args.table.now c.args.kept.now c.args.writer.now c.SIZE-size.result _ _ _ c.loop-p-test.true c.requires.stands (c.SIZE-size.ensures ∙ g.met.A.Archived.Portable.sized) wide c.loop-p.invariant.filling c.in_ok-filled.ensures in
    refused_there _ _ _ _ _ _ c.loop-p.auto.p r _ c.in-Some.item c.in-Some.is _ c.index-kept-left.is _ _ (ap (λ n. n + c.in_ok-filled.filled) c.pos.ensures) (inl c.in_err-resolve_bucket.ensures.0) st made)

pub loop-p-preserved : goal.loop-p-preserved
loop-p-preserved g c =
    let s : WriterMembers g.row.W.Denot = record { known = g.W.Registry.known; pos = g.W.Positional.pos; OBSERVABLE = g.W.Writer.OBSERVABLE; COUNTS = g.W.Writer.COUNTS; contents = g.W.Writer.contents; failures = g.W.Writer.failures; last_error = g.W.Writer.last_error } in
    let wide : size_of g.A.Archived.Portable.shape ≤ length c.loop-p.buffer = omega (arith, c.requires.wide, c.loop-p.invariant.same) in
    let r = ready (g.A.ArchiveWith.spelling c.args.with.now) g.A.Archived.Portable.shape s c.args.table.now c.args.kept.now c.args.writer.now c.SIZE-size.result _ _ _ c.loop-p-test.true c.requires.stands (c.SIZE-size.ensures ∙ g.met.A.Archived.Portable.sized) wide c.loop-p.invariant.filling c.in_ok-filled.ensures in
    elim c.match-table-p.branch [
      | in-Some+in_ok-resolve_bucket v ↦
          (let pos = v.pos.result + c.in_ok-filled.filled in
          let there : pos ≡ g.W.Positional.pos c.make_room.new.writer + c.in_ok-filled.filled = ap (λ n. n + c.in_ok-filled.filled) v.pos.ensures in
          let done = v.in_ok-resolve_bucket.ensures in
          let can = can_be_resolved _ _ _ _ _ _ c.loop-p.auto.p r _ v.in-Some.item v.in-Some.is _ v.index-kept-left.is c.requires.made.0 c.requires.made.1 pos there in
          let sized = sym ((g.met.A.ArchiveWith.spells c.args.with.now (first_fit (λ _. 0)) v.in-Some.item.now).sized v.index-kept-left.result pos done.0) in
          record { same = search rules; filling = put_there _ _ _ _ _ _ c.loop-p.auto.p r _ v.in-Some.item v.in-Some.is _ v.index-kept-left.is _ pos _ _ v.left-is there sized v.buffer-is done.1 (done.0, can.stands) })
      | in_default v ↦ record { same = search rules; filling = left_zero _ _ _ _ _ _ c.loop-p.auto.p r _ _ _ v.in_default.is v.left-is v.buffer-is }
    ]

pub returns : goal.returns
returns g c = λ st made. filling_all _ _ _ _ _ _ c.loop-p.p _ _ _ _ _ _ (omega (arith, c.loop-p-test.false)) c.loop-p.invariant.filling c.write.ensures st made
