use Rattle.std.proofs.Common.{rules, Ok, Err, arith, ◌*◌, ◌-◌, ◌^◌, min, length, ◌≡◌, refl, sym, ap, ◌∙◌}
use Rattle.archive_shape_layout.specs.Bytes.{window, word_at, align_up}
use Rattle.archive_shape_layout.specs.Shape.{size_of}
use Rattle.archive_shape_layout.specs.Shape.Shape.{shared}
use Rattle.archive_shape_layout.specs.Shape.Pointee.{slice}
use Rattle.archive_forms_values.proofs.Contents.{astray_refused}
use Rattle.archive_forms_values.proofs.Targets.{target_found, target_missed}
use Rattle.archive_forms_values.proofs.Claimed.{elements_cut}
use Rattle.archive_forms_rc.proofs.Behind.{elements_checked}
use Rattle.archive_forms_rc.proofs.Counted.{clash_checked, fault_checked, first_checked, later_checked}
use Rattle.archive_forms_rc.proofs.shared_slice.check_rc_slice_each.Goals as goal

pub metadata-len-requires : goal.metadata-len-requires
unfolding align_up
metadata-len-requires g c =
    let there = ap (λ bytes. length bytes.now) c.new-pointer.ensures.bytes in
    omega (arith, c.requires.fits, there, c.new-pointer.ensures.pos)

pub returns-in_default-clause-exact : goal.returns-in_default-clause-exact
returns-in_default-clause-exact g c names known =
    let own : word_at (window c.args.bytes.now c.args.pos 8) 4 ≡ c.metadata-len.result =
    ap (λ bs. word_at (window bs c.args.pos 8) 4) (sym (ap (λ bytes. bytes.now) c.new-pointer.ensures.bytes))
    ∙ ap (λ n. word_at (window c.new-pointer.result.bytes.now n 8) 4) (sym c.new-pointer.ensures.pos) ∙ c.metadata-len.ensures.own refl in
    astray_refused names c.args.bytes.now c.args.pos (shared g.L.Flavor.ALLOW_CYCLES (slice g.T.Portable.shape)) _ _ (word_at (window c.args.bytes.now c.args.pos 8) 4 * size_of g.T.Portable.shape) _ (g.C.ArchiveContext.kept c.args.context.now) refl
    (target_missed c.args.bytes.now c.args.pos 8 (omega arith) c.type_inv.bytes (omega (arith, c.requires.fits)) c.new-pointer.result.bytes.now c.new-pointer.result.pos (ap (λ bytes. bytes.now) c.new-pointer.ensures.bytes) c.new-pointer.ensures.pos c.in_default.ensures)
    (elements_cut _ (word_at (window c.args.bytes.now c.args.pos 8) 4) c.SIZE.result (size_of g.T.Portable.shape)
    (c.saturating_mul-size.ensures ∙ ap (λ n. min (n * c.SIZE.result) (2 ^ 64 - 1)) (sym own))
    (c.SIZE.ensures ∙ g.met.T.Portable.sized))

pub returns-in_err-visit-clause-exact : goal.returns-in_err-visit-clause-exact
returns-in_err-visit-clause-exact g c names known =
    let own : word_at (window c.args.bytes.now c.args.pos 8) 4 ≡ c.metadata-len.result =
    ap (λ bs. word_at (window bs c.args.pos 8) 4) (sym (ap (λ bytes. bytes.now) c.new-pointer.ensures.bytes))
    ∙ ap (λ n. word_at (window c.new-pointer.result.bytes.now n 8) 4) (sym c.new-pointer.ensures.pos) ∙ c.metadata-len.ensures.own refl in
    let leads = target_found c.args.bytes.now c.args.pos 8 (omega arith) c.type_inv.bytes (omega (arith, c.requires.fits)) c.new-pointer.result.bytes.now c.new-pointer.result.pos (ap (λ bytes. bytes.now) c.new-pointer.ensures.bytes) c.new-pointer.ensures.pos c.in-Some.target c.in-Some.ensures in
    clash_checked names c.args.bytes.now c.args.pos g.L.Flavor.ALLOW_CYCLES (slice g.T.Portable.shape) c.in-Some.target c.metadata-len.result leads own
    _ _ _ c.in_err-visit.field-0.0 (search rules) c.in_err-visit.ensures

pub returns-then-not-branch-clause-exact : goal.returns-then-not-branch-clause-exact
returns-then-not-branch-clause-exact g c names known =
    let own : word_at (window c.args.bytes.now c.args.pos 8) 4 ≡ c.metadata-len.result =
    ap (λ bs. word_at (window bs c.args.pos 8) 4) (sym (ap (λ bytes. bytes.now) c.new-pointer.ensures.bytes))
    ∙ ap (λ n. word_at (window c.new-pointer.result.bytes.now n 8) 4) (sym c.new-pointer.ensures.pos) ∙ c.metadata-len.ensures.own refl in
    let leads = target_found c.args.bytes.now c.args.pos 8 (omega arith) c.type_inv.bytes (omega (arith, c.requires.fits)) c.new-pointer.result.bytes.now c.new-pointer.result.pos (ap (λ bytes. bytes.now) c.new-pointer.ensures.bytes) c.new-pointer.ensures.pos c.in-Some.target c.in-Some.ensures in
    later_checked names c.args.bytes.now c.args.pos g.L.Flavor.ALLOW_CYCLES (slice g.T.Portable.shape) c.in-Some.target c.metadata-len.result leads own
    _ _ _ c.if-not-branch.true c.in_ok-visit.ensures

pub returns-in_err-check_vec_each-clause-exact : goal.returns-in_err-check_vec_each-clause-exact
returns-in_err-check_vec_each-clause-exact g c names known =
    let own : word_at (window c.args.bytes.now c.args.pos 8) 4 ≡ c.metadata-len.result =
    ap (λ bs. word_at (window bs c.args.pos 8) 4) (sym (ap (λ bytes. bytes.now) c.new-pointer.ensures.bytes))
    ∙ ap (λ n. word_at (window c.new-pointer.result.bytes.now n 8) 4) (sym c.new-pointer.ensures.pos) ∙ c.metadata-len.ensures.own refl in
    let leads = target_found c.args.bytes.now c.args.pos 8 (omega arith) c.type_inv.bytes (omega (arith, c.requires.fits)) c.new-pointer.result.bytes.now c.new-pointer.result.pos (ap (λ bytes. bytes.now) c.new-pointer.ensures.bytes) c.new-pointer.ensures.pos c.in-Some.target c.in-Some.ensures in
    fault_checked names c.args.bytes.now c.args.pos g.L.Flavor.ALLOW_CYCLES (slice g.T.Portable.shape) c.in-Some.target c.metadata-len.result leads own
    _ _ _ c.if-not-branch.false c.in_ok-visit.ensures _ _ c.in_err-check_vec_each.field-0.0 (search rules)
    (elements_checked names c.args.bytes.now c.args.pos c.in-Some.target c.metadata-len.result g.T.Portable.shape leads own _ (g.C.ArchiveContext.kept c.check_vec_each.new.context) (Err c.in_err-check_vec_each.field-0.0) (c.in_err-check_vec_each.ensures.exact names known))

pub returns-clause-exact : goal.returns-clause-exact
returns-clause-exact g c names known =
    let own : word_at (window c.args.bytes.now c.args.pos 8) 4 ≡ c.metadata-len.result =
    ap (λ bs. word_at (window bs c.args.pos 8) 4) (sym (ap (λ bytes. bytes.now) c.new-pointer.ensures.bytes))
    ∙ ap (λ n. word_at (window c.new-pointer.result.bytes.now n 8) 4) (sym c.new-pointer.ensures.pos) ∙ c.metadata-len.ensures.own refl in
    let leads = target_found c.args.bytes.now c.args.pos 8 (omega arith) c.type_inv.bytes (omega (arith, c.requires.fits)) c.new-pointer.result.bytes.now c.new-pointer.result.pos (ap (λ bytes. bytes.now) c.new-pointer.ensures.bytes) c.new-pointer.ensures.pos c.in-Some.target c.in-Some.ensures in
    first_checked names c.args.bytes.now c.args.pos g.L.Flavor.ALLOW_CYCLES (slice g.T.Portable.shape) c.in-Some.target c.metadata-len.result leads own
    _ _ _ c.if-not-branch.false c.in_ok-visit.ensures _ _ _
    (elements_checked names c.args.bytes.now c.args.pos c.in-Some.target c.metadata-len.result g.T.Portable.shape leads own _ _ (Ok tt) (c.in_ok-check_vec_each.ensures.exact names known)) c.finish_shared.ensures

pub check_vec_each-requires-clause-checks : goal.check_vec_each-requires-clause-checks
check_vec_each-requires-clause-checks g c = c.requires.checks
