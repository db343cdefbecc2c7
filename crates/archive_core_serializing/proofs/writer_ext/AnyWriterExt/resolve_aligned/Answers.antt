use Rattle.std.proofs.Common.{◌≡◌, ◌∙◌, Err, rules}
use Rattle.archive_shape_layout.specs.Writing.{WriterMembers}
use Rattle.archive_core_serializing.proofs.Placed.{placed_wrote, placed_stopped}
use Rattle.archive_core_serializing.proofs.writer_ext.AnyWriterExt.resolve_aligned.Goals as goal

pub returns : goal.returns
returns g c =
    let s : WriterMembers g.row.W.Denot = record { known = g.W.Registry.known; pos = g.W.Positional.pos; OBSERVABLE = g.W.Writer.OBSERVABLE; COUNTS = g.W.Writer.COUNTS; contents = g.W.Writer.contents; failures = g.W.Writer.failures; last_error = g.W.Writer.last_error } in
    placed_wrote g.T.Archive.spelling g.T.Archived.Portable.shape s c.args.value.now c.args.resolver _ _ _ _ (c.ALIGN.ensures ∙ g.met.T.Archived.Portable.aligned) c.in_ok-pos.ensures.writes
    _ c.in_ok-pos.ensures.aligned c.in_ok-resolve_aligned.ensures.0 c.in_ok-resolve_aligned.ensures.1

pub returns-in_err-resolve_aligned : goal.returns-in_err-resolve_aligned
returns-in_err-resolve_aligned g c =
    let s : WriterMembers g.row.W.Denot = record { known = g.W.Registry.known; pos = g.W.Positional.pos; OBSERVABLE = g.W.Writer.OBSERVABLE; COUNTS = g.W.Writer.COUNTS; contents = g.W.Writer.contents; failures = g.W.Writer.failures; last_error = g.W.Writer.last_error } in
    let is : c.from_residual-in_err-resolve_aligned.result ≡ Err c.in_err-resolve_aligned.field-0.0 = search rules in
    rw is (placed_stopped g.T.Archive.spelling g.T.Archived.Portable.shape s c.args.value.now c.args.resolver _ _ _ _ (c.ALIGN.ensures ∙ g.met.T.Archived.Portable.aligned) c.in_ok-pos.ensures.writes
    c.in_err-resolve_aligned.ensures)
