use Rattle.std.proofs.Common.{List, Ok, Err, ℕ, Bor, arith, sym, subst}
use Rattle.archive_shape_layout.specs.Content.Part.{at}
use Rattle.archive_forms_values.specs.Parts.{HasValue}
use Rattle.cabinet_documents.specs.Node.{node_shape, KnowsNode}
use Rattle.cabinet_archives.specs.Sound.{AuditsTo}
use Rattle.cabinet_archives.proofs.Audited.{audited, refused_for, node_there}
use Rattle.cabinet_archives.proofs.opening.opening.check_scanned.Goals as goal

pub audit-requires-clause-has : goal.audit-requires-clause-has
audit-requires-clause-has g c =
    subst (λ (b : Bor (List ℕ)). HasValue node_shape KnowsNode b.now c.in-Ok.root.pos) (sym c.in-Ok.ensures.bytes)
    (subst (HasValue node_shape KnowsNode c.args.bytes.now) (sym c.in-Ok.ensures.position) (node_there c.args.bytes.now c.in-Ok.root c.in-Ok.ensures.exact))

pub returns-in-Ok-audit-clause-accepted : goal.returns-in-Ok-audit-clause-accepted
returns-in-Ok-audit-clause-accepted g c =
    (audited c.args.bytes.now (λ i. omega (arith, c.type_inv.bytes i)) (omega (arith, c.well_formed)) c.in-Ok.ensures.exact (Ok c.in-Ok-audit.field-0)
    (subst (λ n. AuditsTo c.args.bytes.now 0 (at n node_shape) (Ok c.in-Ok-audit.field-0)) c.in-Ok.ensures.position
    (subst (λ (b : Bor (List ℕ)). AuditsTo b.now 0 (at c.in-Ok.root.pos node_shape) (Ok c.in-Ok-audit.field-0)) c.in-Ok.ensures.bytes c.in-Ok-audit.ensures.height))).0

pub returns-in-Ok-clause-refused : goal.returns-in-Ok-clause-refused
returns-in-Ok-clause-refused g c =
    (audited c.args.bytes.now (λ i. omega (arith, c.type_inv.bytes i)) (omega (arith, c.well_formed)) c.in-Ok.ensures.exact (Err c.in-Err-audit.refusal)
    (subst (λ n. AuditsTo c.args.bytes.now 0 (at n node_shape) (Err c.in-Err-audit.refusal)) c.in-Ok.ensures.position
    (subst (λ (b : Bor (List ℕ)). AuditsTo b.now 0 (at c.in-Ok.root.pos node_shape) (Err c.in-Err-audit.refusal)) c.in-Ok.ensures.bytes c.in-Err-audit.ensures.height))).1

pub returns-clause-refused : goal.returns-clause-refused
returns-clause-refused g c = refused_for c.args.bytes.now c.in-Err.error c.refused.result c.refused.ensures c.in-Err.ensures.exact
