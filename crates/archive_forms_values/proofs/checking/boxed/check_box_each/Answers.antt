use Rattle.std.proofs.Common.{arith, ◌*◌, refl, ap}
use Rattle.archive_shape_layout.specs.Shape.{size_of}
use Rattle.archive_shape_layout.specs.Shape.Shape.{box}
use Rattle.archive_shape_layout.specs.Shape.Pointee.{sized}
use Rattle.archive_forms_values.proofs.Contents.{astray_refused, box_checked}
use Rattle.archive_forms_values.proofs.Targets.{target_found, target_missed}
use Rattle.archive_forms_values.proofs.checking.boxed.check_box_each.Goals as goal

pub returns-in_default-clause-exact : goal.returns-in_default-clause-exact
returns-in_default-clause-exact g c names known =
    astray_refused names c.args.bytes.now c.args.pos (box (sized g.T.Portable.shape)) _ _ (1 * size_of g.T.Portable.shape) _ (g.C.ArchiveContext.kept c.args.context.now) refl
    (target_missed c.args.bytes.now c.args.pos 4 (omega arith) c.type_inv.bytes (omega (arith, c.requires.fits)) c.new.result.bytes.now c.new.result.pos (ap (λ bytes. bytes.now) c.new.ensures.bytes) c.new.ensures.pos (c.in_default.ensures))
    (omega (arith, c.SIZE-size.ensures, g.met.T.Portable.sized))

pub returns-clause-exact : goal.returns-clause-exact
returns-clause-exact g c names known =
    box_checked names c.args.bytes.now c.args.pos g.T.Portable.shape c.in-Some.target _ _ _
    (target_found c.args.bytes.now c.args.pos 4 (omega arith) c.type_inv.bytes (omega (arith, c.requires.fits)) c.new.result.bytes.now c.new.result.pos (ap (λ bytes. bytes.now) c.new.ensures.bytes) c.new.ensures.pos c.in-Some.target c.in-Some.ensures)
    (c.check_behind_each.ensures.exact names known)
