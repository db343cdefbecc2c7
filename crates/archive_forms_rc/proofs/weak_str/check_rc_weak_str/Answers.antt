use Rattle.std.proofs.Common.{refl, arith}
use Rattle.archive_shape_layout.specs.Shape.Shape.{weak}
use Rattle.archive_shape_layout.specs.Shape.Pointee.{str}
use Rattle.archive_forms_values.proofs.Tagged.{tag_refused}
use Rattle.archive_forms_rc.proofs.Tags.{nothing_checked, pointer_checked}
use Rattle.archive_forms_rc.proofs.weak_str.check_rc_weak_str.Goals as goal

pub returns-in-0-clause-exact : goal.returns-in-0-clause-exact
returns-in-0-clause-exact g c names =
    nothing_checked names c.args.bytes.now c.args.pos g.L.Flavor.ALLOW_CYCLES str _ c.in-0.is

pub returns-in-1-clause-exact : goal.returns-in-1-clause-exact
returns-in-1-clause-exact g c names =
    pointer_checked names c.args.bytes.now c.args.pos g.L.Flavor.ALLOW_CYCLES str _ _ _ c.in-1.is
    (c.check_rc_str.ensures.exact names)

pub returns-in_default-clause-exact : goal.returns-in_default-clause-exact
returns-in_default-clause-exact g c names =
    let other = c.in_default in
    tag_refused names c.args.bytes.now c.args.pos (weak g.L.Flavor.ALLOW_CYCLES str) _ (g.C.ArchiveContext.kept c.args.context.now) refl (omega arith)
    (λ none. omega arith) (λ some. omega arith)
