use Rattle.std.proofs.Common.{rules, arith, ◌≡◌, suc, ◌+◌, ◌-◌, ◌*◌, ◌<◌, ◌≤◌, length, Ok, Err, refl, ◌∙◌, sym, ap, subst, ◌∷◌}
use Rattle.archive_shape_layout.specs.Shape.{size_of}
use Rattle.archive_shape_layout.specs.Content.{elements}
use Rattle.archive_shape_layout.specs.Content.Part.{at}
use Rattle.archive_shape.proofs.Ordered.{all_refused, advances_narrow, advances_then, advances_within, checked_records, all_left, one_less, first_fault, none_left, elements_next, elements_none, element_fits}
use Rattle.archive_shape.proofs.checking.elements.check_slice_each.Goals as goal

pub loop-i-init : goal.loop-i-init
loop-i-init g c =
    let whole : c.args.len - 0 ≡ c.args.len = omega arith in
    let fits = c.requires.fits in
    record {
      advances = record { begins = omega arith; ordered = c.requires.range.ordered; frame = refl };
      fits = subst (λ n. c.args.pos + n * size_of g.T.Portable.shape ≤ length c.args.bytes.now) (sym whole) fits;
      left = λ names known inside before records. (before, records, all_left names c.args.bytes.now inside before _ _ _ (ap (λ n. elements c.args.pos n g.T.Portable.shape) whole));
    }

pub step-requires : goal.step-requires
step-requires g c =
    let held = c.loop-i.invariant in
    let next : c.args.len - c.loop-i.i ≡ suc (c.args.len - (c.loop-i.i + 1)) = omega (arith, c.loop-i-test.true) in
    let some : 0 < c.args.len = omega (arith, c.loop-i-test.true) in
    c.requires.takes some _ _ (advances_narrow held.advances) (element_fits _ _ _ _ _ next held.fits).0

pub returns-in_err-step-clause-exact : goal.returns-in_err-step-clause-exact
returns-in_err-step-clause-exact g c names known =
    let held = c.loop-i.invariant in
    let next : c.args.len - c.loop-i.i ≡ suc (c.args.len - (c.loop-i.i + 1)) = omega (arith, c.loop-i-test.true) in
    let fits = element_fits _ _ _ _ _ next held.fits in
    let checks = c.requires.checks _ _ _ (Err c.in_err-step.field-0.0) (advances_within _ c.requires.range held.advances) fits.0 c.in_err-step.ensures in
    all_refused names c.args.bytes.now (elements c.args.pos c.args.len g.T.Portable.shape) _ _ _ c.in_err-step.field-0.0 (search rules)
    (λ inside before records other.
    let mid = held.left names known inside before records in
    first_fault names c.args.bytes.now inside before (elements c.args.pos c.args.len g.T.Portable.shape) (g.C.ArchiveContext.kept c.args.context.now) mid.2 (elements_next _ _ _ _ next) (checks.1 names known inside mid.0 mid.1 other))

pub loop-i-preserved : goal.loop-i-preserved
loop-i-preserved g c =
    let held = c.loop-i.invariant in
    let next : c.args.len - c.loop-i.i ≡ suc (c.args.len - (c.loop-i.i + 1)) = omega (arith, c.loop-i-test.true) in
    let fits = element_fits _ _ _ _ _ next held.fits in
    let size : c.SIZE-size.result ≡ size_of g.T.Portable.shape = omega (arith, c.SIZE-size.ensures, g.met.T.Portable.sized, fits.0) in
    let checks = c.requires.checks _ _ _ (Ok tt) (advances_within _ c.requires.range held.advances) fits.0 c.in_ok-step.ensures in
    record {
      advances = advances_then held.advances checks.0;
      fits = subst (λ n. c.loop-i.at + n + (c.args.len - (c.loop-i.i + 1)) * size_of g.T.Portable.shape ≤ length c.args.bytes.now) (sym size) fits.1;
      left = λ names known inside before records.
          let mid = held.left names known inside before records in
          let here = checks.1 names known inside mid.0 mid.1 in (
            here.passes.after,
            checked_records names c.args.bytes.now inside mid.0 here,
            one_less names c.args.bytes.now inside before (elements c.args.pos c.args.len g.T.Portable.shape) (g.C.ArchiveContext.kept c.args.context.now) mid.2 (elements_next _ _ _ _ next ∙ ap (λ n. at c.loop-i.at g.T.Portable.shape ∷ elements (c.loop-i.at + n) (c.args.len - (c.loop-i.i + 1)) g.T.Portable.shape) (sym size)) here,
          );
    }

pub returns-clause-exact : goal.returns-clause-exact
returns-clause-exact g c names known inside before records =
    let none : c.args.len - c.loop-i.i ≡ 0 = omega (arith, c.loop-i.auto.i-end, c.loop-i-test.false) in
    let mid = c.loop-i.invariant.left names known inside before records in
    none_left names c.args.bytes.now inside before (elements c.args.pos c.args.len g.T.Portable.shape) (g.C.ArchiveContext.kept c.args.context.now) mid.2 (elements_none _ _ _ none) mid.1
