use Rattle.std.proofs.Common.{arith}
use Rattle.archive_forms_values.proofs.Payloads.{option_within, option_by_tag}
use Rattle.archive_forms_values.proofs.reading.option.is_none_at.Goals as goal

pub bounds-bytes-pos : goal.bounds-bytes-pos
bounds-bytes-pos g c =
    let within = option_within g.T.Portable.shape g.T.Portable.knows c.args.bytes.now c.args.pos g.T.Portable.ALIGN g.met.T.Portable.aligned g.met.T.Portable.aligns.0 c.requires in
    omega (arith, within, g.met.T.Portable.aligns.0)

pub returns : goal.returns
returns g c =
    option_by_tag g.T.Portable.shape g.T.Portable.knows c.args.bytes.now c.args.pos g.T.Portable.ALIGN g.met.T.Portable.aligned g.met.T.Portable.aligns.0
