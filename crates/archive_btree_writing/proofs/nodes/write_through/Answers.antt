use Rattle.std.proofs.Common.{rules}
use Rattle.archive_shape_layout.specs.Writing.{WriterMembers}
use Rattle.archive_btree_writing.specs.Nodes.{borrowed, node_of}
use Rattle.archive_btree_writing.proofs.Answered.{answers_error}
use Rattle.archive_btree_writing.proofs.Placing.{bytes_refused, bytes_laid}
use Rattle.archive_btree_writing.proofs.nodes.write_through.Goals as goal

pub returns-in_err-resolve_node : goal.returns-in_err-resolve_node
returns-in_err-resolve_node g c = λ st made.
    let s : WriterMembers g.row.W.Denot = record { known = g.W.Registry.known; pos = g.W.Positional.pos; OBSERVABLE = g.W.Writer.OBSERVABLE; COUNTS = g.W.Writer.COUNTS; contents = g.W.Writer.contents; failures = g.W.Writer.failures; last_error = g.W.Writer.last_error } in
    let e = c.in_err-resolve_node.field-0.0 in
    answers_error c.from_residual.result e _ _ (search rules)
    (bytes_refused g.row.E g.K.Archived.Portable.shape g.A.Archived.Portable.shape (borrowed g.K.Archive.spelling) (borrowed (g.A.ArchiveWith.spelling c.args.with.now)) s (node_of c.args.children c.args.entries.now) st c.args.writer.now c.pos-pos.result e c.pos-pos.ensures (c.in_err-resolve_node.ensures st made))

pub returns : goal.returns
returns g c = λ st made.
    let s : WriterMembers g.row.W.Denot = record { known = g.W.Registry.known; pos = g.W.Positional.pos; OBSERVABLE = g.W.Writer.OBSERVABLE; COUNTS = g.W.Writer.COUNTS; contents = g.W.Writer.contents; failures = g.W.Writer.failures; last_error = g.W.Writer.last_error } in
    bytes_laid g.row.E g.K.Archived.Portable.shape g.A.Archived.Portable.shape (borrowed g.K.Archive.spelling) (borrowed (g.A.ArchiveWith.spelling c.args.with.now)) s (node_of c.args.children c.args.entries.now) st c.args.writer.now c.write.new.self c.pos-pos.result _ c.write.result c.pos-pos.ensures (c.in_ok-resolve_node.ensures st made) c.write.ensures
