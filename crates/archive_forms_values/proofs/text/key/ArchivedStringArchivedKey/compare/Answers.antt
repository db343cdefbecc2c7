use Rattle.std.proofs.Common.{arith, sym, subst}
use Rattle.archive_forms_laws.specs.Text.{IsText}
use Rattle.archive_forms_values.proofs.Keys.{texts_ordered}
use Rattle.archive_forms_values.proofs.text.key.ArchivedStringArchivedKey.compare.Goals as goal

pub returns : goal.returns
returns g c =
    let key = g.met.Q.TextQuery.with_text c.args.query.now c.as_str.result.now c.as_str.utf8 (omega (arith, c.as_str.type_inv)) in
    (key.0, subst (IsText c.args.this.now.bytes.now c.args.this.now.pos) (sym key.1) c.as_str.ensures, texts_ordered key.1 c.as_text.ensures c.cmp.ensures)
