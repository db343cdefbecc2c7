use Rattle.std.proofs.Common.{arith, refl}
use Rattle.archive_forms_values.proofs.Tagged.{payloads}
use Rattle.archive_forms_values.proofs.Payloads.{outcome_stands}
use Rattle.archive_forms_values.proofs.reading.result.outcome_at.Goals as goal

pub returns : goal.returns
returns g c =
    let stand = payloads g.T.Portable.shape g.E.Portable.shape _ g.T.Portable.ALIGN g.E.Portable.ALIGN refl g.met.T.Portable.aligned g.met.E.Portable.aligned g.met.T.Portable.aligns.0 in
    let stands = outcome_stands g.T.Portable.shape g.E.Portable.shape g.T.Portable.knows g.E.Portable.knows c.args.bytes.now c.args.pos _ stand in
    omega (arith, stands, c.greater.ensures, c.ALIGN.ensures, c.ALIGN-2.ensures)
