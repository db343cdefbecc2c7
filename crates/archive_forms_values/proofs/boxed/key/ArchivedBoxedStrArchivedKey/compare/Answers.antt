use Rattle.std.proofs.Common.{arith, sym, ap, ◌∙◌}
use Rattle.archive_forms_laws.specs.Views.{text_of}
use Rattle.archive_forms_values.proofs.Keys.{texts_ordered}
use Rattle.archive_forms_values.proofs.boxed.key.ArchivedBoxedStrArchivedKey.compare.Goals as goal

pub returns : goal.returns
returns g c =
    let there = c.get.ensures in
    let key = g.met.Q.TextQuery.with_text c.args.query.now c.get.result.now c.get.utf8 (omega (arith, c.get.type_inv)) in (
      key.0,
      record { there = c.requires; each = λ v h. ap text_of (there.2.value v h) ∙ sym there.3 ∙ sym key.1 },
      texts_ordered key.1 c.as_text.ensures c.cmp.ensures,
    )
