use Rattle.std.proofs.Common.{refl}
use Rattle.archive_forms_values.proofs.Tagged.{payloads}
use Rattle.archive_forms_values.proofs.Inside.{some_unless}
use Rattle.archive_forms_values.proofs.Payloads.{ok_is_not_error}
use Rattle.archive_forms_values.proofs.reading.result.ArchivedResult.unwrap.Goals as goal

pub unwrap-requires : goal.unwrap-requires
unwrap-requires g c =
    some_unless _ c.ok.result c.ok.ensures
    (ok_is_not_error g.T.Portable.shape g.E.Portable.shape g.T.Portable.knows g.E.Portable.knows c.args.this.bytes.now c.args.this.pos _
    (payloads g.T.Portable.shape g.E.Portable.shape _ g.T.Portable.ALIGN g.E.Portable.ALIGN refl g.met.T.Portable.aligned g.met.E.Portable.aligned g.met.T.Portable.aligns.0) c.requires)
