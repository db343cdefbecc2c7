use Rattle.std.proofs.Common.{rules, arith}
use Rattle.archive_forms_values.proofs.Payloads.{some_stands}
use Rattle.archive_forms_values.proofs.reading.option.ArchivedOption.as_ref.Goals as goal

pub returns-else-is_none : goal.returns-else-is_none
returns-else-is_none g c =
    let stands = some_stands g.T.Portable.shape g.T.Portable.knows c.args.this.bytes.now c.args.this.pos g.T.Portable.ALIGN g.met.T.Portable.aligned g.met.T.Portable.aligns.0 in
    (c.new.ensures.bytes, omega (arith, c.new.ensures.pos, c.ALIGN.ensures, stands), search rules)
