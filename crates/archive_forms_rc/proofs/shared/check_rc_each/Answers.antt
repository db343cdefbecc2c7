use Rattle.std.proofs.Common.{rules, arith, ◌*◌, refl, ap}
use Rattle.archive_shape_layout.specs.Shape.{size_of}
use Rattle.archive_shape_layout.specs.Shape.Shape.{shared}
use Rattle.archive_shape_layout.specs.Shape.Pointee.{sized}
use Rattle.archive_forms_values.proofs.Contents.{astray_refused}
use Rattle.archive_forms_values.proofs.Targets.{target_found, target_missed}
use Rattle.archive_forms_rc.proofs.Counted.{clash_checked, fault_checked, first_checked, later_checked}
use Rattle.archive_forms_rc.proofs.shared.check_rc_each.Goals as goal

pub returns-in_default-clause-exact : goal.returns-in_default-clause-exact
returns-in_default-clause-exact g c names known =
    astray_refused names c.args.bytes.now c.args.pos (shared g.L.Flavor.ALLOW_CYCLES (sized g.T.Portable.shape)) _ _ (1 * size_of g.T.Portable.shape) _ (g.C.ArchiveContext.kept c.args.context.now) refl
    (target_missed c.args.bytes.now c.args.pos 4 (omega arith) c.type_inv.bytes (omega (arith, c.requires.fits)) c.new.result.bytes.now c.new.result.pos (ap (λ bytes. bytes.now) c.new.ensures.bytes) c.new.ensures.pos c.in_default.ensures)
    (omega (arith, c.SIZE-size.ensures, g.met.T.Portable.sized))

pub returns-in_err-visit-clause-exact : goal.returns-in_err-visit-clause-exact
returns-in_err-visit-clause-exact g c names known =
    let leads = target_found c.args.bytes.now c.args.pos 4 (omega arith) c.type_inv.bytes (omega (arith, c.requires.fits)) c.new.result.bytes.now c.new.result.pos (ap (λ bytes. bytes.now) c.new.ensures.bytes) c.new.ensures.pos c.in-Some.target c.in-Some.ensures in
    clash_checked names c.args.bytes.now c.args.pos g.L.Flavor.ALLOW_CYCLES (sized g.T.Portable.shape) c.in-Some.target 1 leads refl
    _ _ _ c.in_err-visit.field-0.0 (search rules) c.in_err-visit.ensures

pub returns-then-not-branch-clause-exact : goal.returns-then-not-branch-clause-exact
returns-then-not-branch-clause-exact g c names known =
    let leads = target_found c.args.bytes.now c.args.pos 4 (omega arith) c.type_inv.bytes (omega (arith, c.requires.fits)) c.new.result.bytes.now c.new.result.pos (ap (λ bytes. bytes.now) c.new.ensures.bytes) c.new.ensures.pos c.in-Some.target c.in-Some.ensures in
    later_checked names c.args.bytes.now c.args.pos g.L.Flavor.ALLOW_CYCLES (sized g.T.Portable.shape) c.in-Some.target 1 leads refl
    _ _ _ c.if-not-branch.true c.in_ok-visit.ensures

pub returns-in_err-check_behind_each-clause-exact : goal.returns-in_err-check_behind_each-clause-exact
returns-in_err-check_behind_each-clause-exact g c names known =
    let leads = target_found c.args.bytes.now c.args.pos 4 (omega arith) c.type_inv.bytes (omega (arith, c.requires.fits)) c.new.result.bytes.now c.new.result.pos (ap (λ bytes. bytes.now) c.new.ensures.bytes) c.new.ensures.pos c.in-Some.target c.in-Some.ensures in
    fault_checked names c.args.bytes.now c.args.pos g.L.Flavor.ALLOW_CYCLES (sized g.T.Portable.shape) c.in-Some.target 1 leads refl
    _ _ _ c.if-not-branch.false c.in_ok-visit.ensures _ _ c.in_err-check_behind_each.field-0.0 (search rules) (c.in_err-check_behind_each.ensures.exact names known)

pub returns-clause-exact : goal.returns-clause-exact
returns-clause-exact g c names known =
    let leads = target_found c.args.bytes.now c.args.pos 4 (omega arith) c.type_inv.bytes (omega (arith, c.requires.fits)) c.new.result.bytes.now c.new.result.pos (ap (λ bytes. bytes.now) c.new.ensures.bytes) c.new.ensures.pos c.in-Some.target c.in-Some.ensures in
    first_checked names c.args.bytes.now c.args.pos g.L.Flavor.ALLOW_CYCLES (sized g.T.Portable.shape) c.in-Some.target 1 leads refl
    _ _ _ c.if-not-branch.false c.in_ok-visit.ensures _ _ _ (c.in_ok-check_behind_each.ensures.exact names known) c.finish_shared.ensures

pub check_behind_each-requires-clause-checks : goal.check_behind_each-requires-clause-checks
check_behind_each-requires-clause-checks g c = c.requires.checks
