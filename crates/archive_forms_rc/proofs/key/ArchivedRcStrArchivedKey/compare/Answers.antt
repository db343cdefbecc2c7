use Rattle.std.proofs.Common.{arith, sym, ◌∙◌}
use Rattle.archive_forms_values.proofs.Keys.{texts_ordered}
use Rattle.archive_forms_rc.proofs.key.ArchivedRcStrArchivedKey.compare.Goals as goal

pub returns : goal.returns
returns g c =
    let key = g.met.Q.TextQuery.with_text c.args.query.now c.rc_text.result.now c.rc_text.utf8 (omega (arith, c.rc_text.type_inv)) in
    (key.0, record { there = c.requires; each = λ v h. sym (c.rc_text.ensures v h) ∙ sym key.1 }, texts_ordered key.1 c.as_text.ensures c.cmp.ensures)
