use Rattle.std.proofs.Common.{rules, arith}
use Rattle.archive_shape_layout.specs.Writing.{WriterMembers}
use Rattle.archive_btree_writing.specs.Nodes.{borrowed, node_of}
use Rattle.archive_btree_writing.proofs.Answered.{answers_error}
use Rattle.archive_btree_writing.proofs.Placing.{node_aligns, gap_failed, stands_at, node_far, node_stopped, node_written}
use Rattle.archive_btree_writing.proofs.nodes.write_behind.Goals as goal

pub align-requires-clause-positive : goal.align-requires-clause-positive
align-requires-clause-positive g c =
    let k = g.K.Archived.Portable.shape in
    let v = g.A.Archived.Portable.shape in
    (node_aligns k v _ _ c.of-layout.result.link_align g.met.K.Archived.Portable.aligned g.met.A.Archived.Portable.aligned g.met.K.Archived.Portable.aligns.1 g.met.A.Archived.Portable.aligns.1 c.of-layout.ensures.parts.link_align).0

pub align-requires-clause-small : goal.align-requires-clause-small
align-requires-clause-small g c =
    let k = g.K.Archived.Portable.shape in
    let v = g.A.Archived.Portable.shape in
    (node_aligns k v _ _ c.of-layout.result.link_align g.met.K.Archived.Portable.aligned g.met.A.Archived.Portable.aligned g.met.K.Archived.Portable.aligns.1 g.met.A.Archived.Portable.aligns.1 c.of-layout.ensures.parts.link_align).1

pub returns-in_err-to : goal.returns-in_err-to
returns-in_err-to g c = λ st made.
    let k = g.K.Archived.Portable.shape in
    let v = g.A.Archived.Portable.shape in
    let keys = borrowed g.K.Archive.spelling in
    let vals = borrowed (g.A.ArchiveWith.spelling c.args.with.now) in
    let n = node_of c.args.children c.args.entries.now in
    let old = c.args.serializer.now in
    let s : WriterMembers g.row.S.Denot = record { known = g.S.Registry.known; pos = g.S.Positional.pos; OBSERVABLE = g.S.Writer.OBSERVABLE; COUNTS = g.S.Writer.COUNTS; contents = g.S.Writer.contents; failures = g.S.Writer.failures; last_error = g.S.Writer.last_error } in
    let e = c.in_err-to.field-0.0 in
    answers_error c.from_residual.result e _ _ (search rules) (gap_failed g.row.E k v keys vals s n st old c.align.new.writer c.of-layout.result.link_align e c.of-layout.ensures.parts.link_align c.in_err-to.ensures.writes)

pub returns-in_err-check_place : goal.returns-in_err-check_place
returns-in_err-check_place g c = λ st made.
    let k = g.K.Archived.Portable.shape in
    let v = g.A.Archived.Portable.shape in
    let keys = borrowed g.K.Archive.spelling in
    let vals = borrowed (g.A.ArchiveWith.spelling c.args.with.now) in
    let n = node_of c.args.children c.args.entries.now in
    let old = c.args.serializer.now in
    let s : WriterMembers g.row.S.Denot = record { known = g.S.Registry.known; pos = g.S.Positional.pos; OBSERVABLE = g.S.Writer.OBSERVABLE; COUNTS = g.S.Writer.COUNTS; contents = g.S.Writer.contents; failures = g.S.Writer.failures; last_error = g.S.Writer.last_error } in
    let e = c.in_err-check_place.field-0.0 in
    answers_error c.from_residual-in_err-check_place.result e _ _ (search rules) (node_far g.row.E k v keys vals s n st old c.of-layout.result.link_align c.in_ok-to.to c.of-layout.ensures.parts.link_align c.in_ok-to.ensures.aligned c.in_ok-to.ensures.writes c.node_size-size.result e c.node_size-size.ensures c.in_err-check_place.ensures)

pub write_own-requires-clause-room : goal.write_own-requires-clause-room
write_own-requires-clause-room g c =
    omega (arith, c.in_ok-to.ensures.writes.is_quiet, c.requires.room)

pub write_own-requires-clause-stands : goal.write_own-requires-clause-stands
write_own-requires-clause-stands g c =
    let k = g.K.Archived.Portable.shape in
    let v = g.A.Archived.Portable.shape in
    let keys = borrowed g.K.Archive.spelling in
    let vals = borrowed (g.A.ArchiveWith.spelling c.args.with.now) in
    let n = node_of c.args.children c.args.entries.now in
    let old = c.args.serializer.now in
    let s : WriterMembers g.row.S.Denot = record { known = g.S.Registry.known; pos = g.S.Positional.pos; OBSERVABLE = g.S.Writer.OBSERVABLE; COUNTS = g.S.Writer.COUNTS; contents = g.S.Writer.contents; failures = g.S.Writer.failures; last_error = g.S.Writer.last_error } in
    let st = c.requires.made.0 in
    let here = stands_at g.row.E k v keys vals s n st old c.of-layout.result.link_align c.in_ok-to.to c.of-layout.ensures.parts.link_align c.in_ok-to.ensures.aligned c.in_ok-to.ensures.writes in omega (arith, here, c.in_ok-check_place.ensures.1)

pub returns-in_err-write_own : goal.returns-in_err-write_own
returns-in_err-write_own g c = λ st made.
    let k = g.K.Archived.Portable.shape in
    let v = g.A.Archived.Portable.shape in
    let keys = borrowed g.K.Archive.spelling in
    let vals = borrowed (g.A.ArchiveWith.spelling c.args.with.now) in
    let n = node_of c.args.children c.args.entries.now in
    let old = c.args.serializer.now in
    let s : WriterMembers g.row.S.Denot = record { known = g.S.Registry.known; pos = g.S.Positional.pos; OBSERVABLE = g.S.Writer.OBSERVABLE; COUNTS = g.S.Writer.COUNTS; contents = g.S.Writer.contents; failures = g.S.Writer.failures; last_error = g.S.Writer.last_error } in
    let e = c.in_err-write_own.field-0.0 in
    answers_error c.from_residual-in_err-write_own.result e _ _ (search rules) (node_stopped g.row.E k v keys vals s n st old c.of-layout.result.link_align c.in_ok-to.to c.of-layout.ensures.parts.link_align c.in_ok-to.ensures.aligned c.in_ok-to.ensures.writes c.write_own.new.serializer e (c.in_err-write_own.ensures.lays st made))

pub returns : goal.returns
returns g c = λ st made.
    let k = g.K.Archived.Portable.shape in
    let v = g.A.Archived.Portable.shape in
    let keys = borrowed g.K.Archive.spelling in
    let vals = borrowed (g.A.ArchiveWith.spelling c.args.with.now) in
    let n = node_of c.args.children c.args.entries.now in
    let old = c.args.serializer.now in
    let s : WriterMembers g.row.S.Denot = record { known = g.S.Registry.known; pos = g.S.Positional.pos; OBSERVABLE = g.S.Writer.OBSERVABLE; COUNTS = g.S.Writer.COUNTS; contents = g.S.Writer.contents; failures = g.S.Writer.failures; last_error = g.S.Writer.last_error } in
    let own = c.in_ok-write_own.ensures.lays st made in
    node_written g.row.E k v keys vals s n st old c.of-layout.result.link_align c.in_ok-to.to c.of-layout.ensures.parts.link_align c.in_ok-to.ensures.aligned c.in_ok-to.ensures.writes c.write_own.new.serializer c.in_ok-check_place.ensures.0 c.in_ok-write_own.ensures.placed own.0 own.1
