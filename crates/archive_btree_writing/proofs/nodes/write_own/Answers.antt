use Rattle.std.proofs.Common.{arith, ◌≡◌, refl, inl, ap, ◌∙◌}
use Rattle.std.proofs.lemmas.List.{take-replicate}
use Rattle.archive_shape_layout.specs.Content.{words_of, link_node_size}
use Rattle.archive_shape.specs.Bytes.{zeros}
use Rattle.archive_shape_layout.specs.Writing.{WriterMembers}
use Rattle.archive_forms_writing.proofs.Laying.{stopped_before}
use Rattle.archive_btree_spelling.specs.Written.{own_bytes, slots_refused}
use Rattle.archive_btree_writing.specs.Nodes.{borrowed, kind_of, node_of}
use Rattle.archive_btree_writing.proofs.nodes.write_own.Goals as goal

pub write_through-requires-clause-blank : goal.write_through-requires-clause-blank
write_through-requires-clause-blank g c =
    let whole = link_node_size (words_of (kind_of c.args.children) g.row.E) g.row.E g.K.Archived.Portable.shape g.A.Archived.Portable.shape in
    let few = c.if-size-le-BUFFER.true in
    let size : c.args.size ≡ whole = omega (arith, c.requires.sized, few) in
    take-replicate c.args.size 256 0 (omega (arith, few)) ∙ ap zeros size

pub returns-in-Err-clause-lays : goal.returns-in-Err-clause-lays
returns-in-Err-clause-lays g c = λ st made.
    let s : WriterMembers g.row.S.Denot = record { known = g.S.Registry.known; pos = g.S.Positional.pos; OBSERVABLE = g.S.Writer.OBSERVABLE; COUNTS = g.S.Writer.COUNTS; contents = g.S.Writer.contents; failures = g.S.Writer.failures; last_error = g.S.Writer.last_error } in
    let pos = g.S.Positional.pos c.args.serializer.now in
    let keys = borrowed g.K.Archive.spelling in
    let vals = borrowed (g.A.ArchiveWith.spelling c.args.with.now) in
    let n = node_of c.args.children c.args.entries.now in
    stopped_before s c.args.serializer.now (own_bytes g.row.E g.K.Archived.Portable.shape g.A.Archived.Portable.shape keys vals n st pos) (slots_refused g.row.E g.K.Archived.Portable.shape g.A.Archived.Portable.shape keys vals n st pos) _ (inl refl)
