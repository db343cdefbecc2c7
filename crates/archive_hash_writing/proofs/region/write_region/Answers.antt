use Rattle.std.proofs.Common.{rules, ◌≡◌, Err, ◌∙◌, arith, length, map, refl, sym}
use Rattle.std.proofs.lemmas.List.{length-map}
use Rattle.archive_shape_layout.specs.Writing.{WriterMembers}
use Rattle.archive_hash_writing.specs.Standing.{standing}
use Rattle.archive_hash_writing.proofs.WholeRegion.{aligned_at, gap_failed, region_far, buckets_stopped, controls_failed, region_laid}
use Rattle.archive_hash_writing.proofs.region.write_region.Goals as goal

pub returns-in_err-from : goal.returns-in_err-from
returns-in_err-from g c =
    let failed : c.from_residual.result ≡ Err c.in_err-from.field-0.0 = search rules in
    rw failed
    (λ st made at.
    let w = g.A.ArchiveWith.spelling c.args.with.now in
    let sh = g.A.Archived.Portable.shape in
    let s : WriterMembers g.row.S.Denot = record { known = g.S.Registry.known; pos = g.S.Positional.pos; OBSERVABLE = g.S.Writer.OBSERVABLE; COUNTS = g.S.Writer.COUNTS; contents = g.S.Writer.contents; failures = g.S.Writer.failures; last_error = g.S.Writer.last_error } in
    let os = map standing c.args.table.now in
    let controls = c.args.controls.now in
    let old = c.args.serializer.now in
    let aligned = c.ALIGN.ensures ∙ g.met.A.Archived.Portable.aligned in
    gap_failed w sh s os controls st old at _ aligned _ _ c.in_err-from.ensures.writes)

pub returns-in_default : goal.returns-in_default
returns-in_default g c = λ st made at.
    let w = g.A.ArchiveWith.spelling c.args.with.now in
    let sh = g.A.Archived.Portable.shape in
    let s : WriterMembers g.row.S.Denot = record { known = g.S.Registry.known; pos = g.S.Positional.pos; OBSERVABLE = g.S.Writer.OBSERVABLE; COUNTS = g.S.Writer.COUNTS; contents = g.S.Writer.contents; failures = g.S.Writer.failures; last_error = g.S.Writer.last_error } in
    let os = map standing c.args.table.now in
    let controls = c.args.controls.now in
    let old = c.args.serializer.now in
    let aligned = c.ALIGN.ensures ∙ g.met.A.Archived.Portable.aligned in
    region_far w sh s os controls st old at _ aligned _ c.in_ok-from.from c.in_ok-from.ensures.aligned c.in_ok-from.ensures.writes (length c.args.table.now) (length controls) (sym (length-map c.args.table.now standing)) refl c.in_default.ensures

pub write_buckets-requires-clause-stands : goal.write_buckets-requires-clause-stands
write_buckets-requires-clause-stands g c =
    let s : WriterMembers g.row.S.Denot = record { known = g.S.Registry.known; pos = g.S.Positional.pos; OBSERVABLE = g.S.Writer.OBSERVABLE; COUNTS = g.S.Writer.COUNTS; contents = g.S.Writer.contents; failures = g.S.Writer.failures; last_error = g.S.Writer.last_error } in
    let here = aligned_at s c.args.serializer.now c.align.new.writer _ c.in_ok-from.from c.in_ok-from.ensures.aligned c.in_ok-from.ensures.writes in
    omega (arith, here, c.in-Some.ensures.0, c.in-Some.ensures.2)

pub returns-in_err-write_buckets : goal.returns-in_err-write_buckets
returns-in_err-write_buckets g c =
    let failed : c.from_residual-in_err-write_buckets.result ≡ Err c.in_err-write_buckets.field-0.0 = search rules in
    rw failed
    (λ st made at.
    let w = g.A.ArchiveWith.spelling c.args.with.now in
    let sh = g.A.Archived.Portable.shape in
    let s : WriterMembers g.row.S.Denot = record { known = g.S.Registry.known; pos = g.S.Positional.pos; OBSERVABLE = g.S.Writer.OBSERVABLE; COUNTS = g.S.Writer.COUNTS; contents = g.S.Writer.contents; failures = g.S.Writer.failures; last_error = g.S.Writer.last_error } in
    let os = map standing c.args.table.now in
    let controls = c.args.controls.now in
    let old = c.args.serializer.now in
    let aligned = c.ALIGN.ensures ∙ g.met.A.Archived.Portable.aligned in
    buckets_stopped w sh s os controls st old at _ aligned _ c.in_ok-from.from c.in_ok-from.ensures.aligned c.in_ok-from.ensures.writes _ _ (c.in_err-write_buckets.ensures st made))

pub write-requires : goal.write-requires
write-requires g c = let laid = c.in_ok-write_buckets.ensures c.requires.made.0 c.requires.made.1 in omega (arith, laid.0.is_quiet, c.in_ok-from.ensures.writes.is_quiet, c.requires.room)

pub returns : goal.returns
returns g c = λ st made at.
    let w = g.A.ArchiveWith.spelling c.args.with.now in
    let sh = g.A.Archived.Portable.shape in
    let s : WriterMembers g.row.S.Denot = record { known = g.S.Registry.known; pos = g.S.Positional.pos; OBSERVABLE = g.S.Writer.OBSERVABLE; COUNTS = g.S.Writer.COUNTS; contents = g.S.Writer.contents; failures = g.S.Writer.failures; last_error = g.S.Writer.last_error } in
    let os = map standing c.args.table.now in
    let controls = c.args.controls.now in
    let old = c.args.serializer.now in
    let aligned = c.ALIGN.ensures ∙ g.met.A.Archived.Portable.aligned in
    let laid = c.in_ok-write_buckets.ensures st made in
    region_laid w sh s os controls st old at _ aligned _ c.in_ok-from.from c.in_ok-from.ensures.aligned c.in_ok-from.ensures.writes _ laid.0 _ c.in-Some.to _ (sym (length-map c.args.table.now standing)) c.in-Some.ensures.0 c.in-Some.ensures.1 c.in-Some.ensures.2 laid.1 c.in_ok-write.ensures

pub returns-in_err-write : goal.returns-in_err-write
returns-in_err-write g c =
    let failed : c.from_residual-in_err-write.result ≡ Err c.in_err-write.field-0.0 = search rules in
    rw failed
    (λ st made at.
    let w = g.A.ArchiveWith.spelling c.args.with.now in
    let sh = g.A.Archived.Portable.shape in
    let s : WriterMembers g.row.S.Denot = record { known = g.S.Registry.known; pos = g.S.Positional.pos; OBSERVABLE = g.S.Writer.OBSERVABLE; COUNTS = g.S.Writer.COUNTS; contents = g.S.Writer.contents; failures = g.S.Writer.failures; last_error = g.S.Writer.last_error } in
    let os = map standing c.args.table.now in
    let controls = c.args.controls.now in
    let old = c.args.serializer.now in
    let aligned = c.ALIGN.ensures ∙ g.met.A.Archived.Portable.aligned in
    let laid = c.in_ok-write_buckets.ensures st made in
    controls_failed w sh s os controls st old at _ aligned _ c.in_ok-from.from c.in_ok-from.ensures.aligned c.in_ok-from.ensures.writes _ laid.0 _ _ c.in_err-write.ensures)
