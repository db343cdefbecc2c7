use Rattle.archive_forms_values.proofs.Inside.{some_unless}
use Rattle.archive_forms_values.proofs.Payloads.{some_is_not_none}
use Rattle.archive_forms_values.proofs.reading.option.ArchivedOption.unwrap.Goals as goal

pub unwrap-requires : goal.unwrap-requires
unwrap-requires g c =
    some_unless _ c.as_ref.result c.as_ref.ensures
    (some_is_not_none g.T.Portable.shape g.T.Portable.knows c.args.this.bytes.now c.args.this.pos g.T.Portable.ALIGN g.met.T.Portable.aligned g.met.T.Portable.aligns.0 c.requires)
