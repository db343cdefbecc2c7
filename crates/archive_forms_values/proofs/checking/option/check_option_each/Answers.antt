use Rattle.std.proofs.Common.{refl, arith, ◌≡◌, ◌<◌, ◌∙◌}
use Rattle.archive_shape_layout.specs.Shape.{align_of}
use Rattle.archive_shape_layout.specs.Shape.Shape.{option}
use Rattle.archive_forms_values.proofs.Tagged.{option_fits, none_checked, some_checked, tag_refused}
use Rattle.archive_forms_values.proofs.checking.option.check_option_each.Goals as goal

pub bounds-bytes-pos : goal.bounds-bytes-pos
bounds-bytes-pos g c =
    let fits = option_fits g.T.Portable.shape g.T.Portable.ALIGN g.met.T.Portable.aligned g.met.T.Portable.aligns.0 in
    let positive = g.met.T.Portable.aligns.0 in
    omega arith

pub step-requires : goal.step-requires
step-requires g c =
    let align : c.ALIGN-offset.result ≡ align_of g.T.Portable.shape = c.ALIGN-offset.ensures ∙ g.met.T.Portable.aligned in
    let fits = option_fits g.T.Portable.shape c.ALIGN-offset.result align (let positive = g.met.T.Portable.aligns.0 in omega arith) in
    c.requires.takes _ _ (record { begins = omega arith; ends = omega arith; ordered = c.requires.range.ordered }) (omega arith)

pub returns-in-0-clause-exact : goal.returns-in-0-clause-exact
returns-in-0-clause-exact g c names known =
    none_checked names c.args.bytes.now c.args.pos g.T.Portable.shape g.T.Portable.ALIGN g.met.T.Portable.aligned g.met.T.Portable.aligns.0 _ c.in-0.is

pub returns-in-1 : goal.returns-in-1
returns-in-1 g c =
    let align : c.ALIGN-offset.result ≡ align_of g.T.Portable.shape = c.ALIGN-offset.ensures ∙ g.met.T.Portable.aligned in
    let positive : 0 < c.ALIGN-offset.result = let some = g.met.T.Portable.aligns.0 in omega arith in
    let fits = option_fits g.T.Portable.shape c.ALIGN-offset.result align positive in
    let checks = c.requires.checks _ _ _ c.step.result c.requires.range (omega arith) c.step.ensures in
    record {
      moves = checks.0;
      exact = λ names known. some_checked names c.args.bytes.now c.args.pos g.T.Portable.shape c.ALIGN-offset.result align positive _ _ _ c.in-1.is (checks.1 names known);
    }

pub returns-clause-exact : goal.returns-clause-exact
returns-clause-exact g c names known =
    let other = c.in_default in
    let fits = option_fits g.T.Portable.shape g.T.Portable.ALIGN g.met.T.Portable.aligned g.met.T.Portable.aligns.0 in
    let positive = g.met.T.Portable.aligns.0 in
    tag_refused names c.args.bytes.now c.args.pos (option g.T.Portable.shape) _ (g.C.ArchiveContext.kept c.args.context.now) refl (omega arith)
    (λ none. omega arith) (λ some. omega arith)
