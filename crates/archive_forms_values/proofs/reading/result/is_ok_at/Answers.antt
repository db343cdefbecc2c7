use Rattle.std.proofs.Common.{arith, refl}
use Rattle.archive_forms_values.proofs.Tagged.{payloads}
use Rattle.archive_forms_values.proofs.Payloads.{result_within, result_by_tag}
use Rattle.archive_forms_values.proofs.reading.result.is_ok_at.Goals as goal

pub bounds-bytes-pos : goal.bounds-bytes-pos
bounds-bytes-pos g c =
    let stand = payloads g.T.Portable.shape g.E.Portable.shape _ g.T.Portable.ALIGN g.E.Portable.ALIGN refl g.met.T.Portable.aligned g.met.E.Portable.aligned g.met.T.Portable.aligns.0 in
    let within = result_within g.T.Portable.shape g.E.Portable.shape g.T.Portable.knows g.E.Portable.knows c.args.bytes.now c.args.pos _ stand c.requires in
    omega (arith, within.0, stand.positive)

pub returns : goal.returns
returns g c =
    result_by_tag g.T.Portable.shape g.E.Portable.shape g.T.Portable.knows g.E.Portable.knows c.args.bytes.now c.args.pos _
    (payloads g.T.Portable.shape g.E.Portable.shape _ g.T.Portable.ALIGN g.E.Portable.ALIGN refl g.met.T.Portable.aligned g.met.E.Portable.aligned g.met.T.Portable.aligns.0)
