use Rattle.std.proofs.Common.{rules, arith, ◌*◌, length, ◌≡◌, refl, sym, ap, ◌∙◌}
use Rattle.archive_shape_layout.specs.Bytes.{window, word_at, align_up}
use Rattle.archive_shape_layout.specs.Shape.Shape.{shared}
use Rattle.archive_shape_layout.specs.Shape.Pointee.{str}
use Rattle.archive_forms_values.proofs.Contents.{astray_refused}
use Rattle.archive_forms_values.proofs.Targets.{target_found, target_missed}
use Rattle.archive_forms_rc.proofs.Counted.{clash_checked, fault_checked, first_checked, later_checked}
use Rattle.archive_forms_rc.proofs.shared_str.check_rc_str.Goals as goal

pub metadata-len-requires : goal.metadata-len-requires
unfolding align_up
metadata-len-requires g c =
    let there = ap (λ bytes. length bytes.now) c.new-pointer.ensures.bytes in
    omega (arith, c.requires.fits, there, c.new-pointer.ensures.pos)

pub returns-in_default-clause-exact : goal.returns-in_default-clause-exact
returns-in_default-clause-exact g c names =
    let own : word_at (window c.args.bytes.now c.args.pos 8) 4 ≡ c.metadata-len.result =
    ap (λ bs. word_at (window bs c.args.pos 8) 4) (sym (ap (λ bytes. bytes.now) c.new-pointer.ensures.bytes))
    ∙ ap (λ n. word_at (window c.new-pointer.result.bytes.now n 8) 4) (sym c.new-pointer.ensures.pos) ∙ c.metadata-len.ensures.own refl in
    let bound = c.metadata-len.type_inv in
    astray_refused names c.args.bytes.now c.args.pos (shared g.L.Flavor.ALLOW_CYCLES str) _ _ (word_at (window c.args.bytes.now c.args.pos 8) 4 * 1) _ (g.C.ArchiveContext.kept c.args.context.now) refl
    (target_missed c.args.bytes.now c.args.pos 8 (omega arith) c.type_inv.bytes (omega (arith, c.requires.fits)) c.new-pointer.result.bytes.now c.new-pointer.result.pos (ap (λ bytes. bytes.now) c.new-pointer.ensures.bytes) c.new-pointer.ensures.pos c.in_default.ensures)
    (omega (arith, own, bound))

pub returns-in_err-visit-clause-exact : goal.returns-in_err-visit-clause-exact
returns-in_err-visit-clause-exact g c names =
    let own : word_at (window c.args.bytes.now c.args.pos 8) 4 ≡ c.metadata-len.result =
    ap (λ bs. word_at (window bs c.args.pos 8) 4) (sym (ap (λ bytes. bytes.now) c.new-pointer.ensures.bytes))
    ∙ ap (λ n. word_at (window c.new-pointer.result.bytes.now n 8) 4) (sym c.new-pointer.ensures.pos) ∙ c.metadata-len.ensures.own refl in
    let leads = target_found c.args.bytes.now c.args.pos 8 (omega arith) c.type_inv.bytes (omega (arith, c.requires.fits)) c.new-pointer.result.bytes.now c.new-pointer.result.pos (ap (λ bytes. bytes.now) c.new-pointer.ensures.bytes) c.new-pointer.ensures.pos c.in-Some.target c.in-Some.ensures in
    clash_checked names c.args.bytes.now c.args.pos g.L.Flavor.ALLOW_CYCLES str c.in-Some.target c.metadata-len.result leads own
    _ _ _ c.in_err-visit.field-0.0 (search rules) c.in_err-visit.ensures

pub returns-then-not-branch-clause-exact : goal.returns-then-not-branch-clause-exact
returns-then-not-branch-clause-exact g c names =
    let own : word_at (window c.args.bytes.now c.args.pos 8) 4 ≡ c.metadata-len.result =
    ap (λ bs. word_at (window bs c.args.pos 8) 4) (sym (ap (λ bytes. bytes.now) c.new-pointer.ensures.bytes))
    ∙ ap (λ n. word_at (window c.new-pointer.result.bytes.now n 8) 4) (sym c.new-pointer.ensures.pos) ∙ c.metadata-len.ensures.own refl in
    let leads = target_found c.args.bytes.now c.args.pos 8 (omega arith) c.type_inv.bytes (omega (arith, c.requires.fits)) c.new-pointer.result.bytes.now c.new-pointer.result.pos (ap (λ bytes. bytes.now) c.new-pointer.ensures.bytes) c.new-pointer.ensures.pos c.in-Some.target c.in-Some.ensures in
    later_checked names c.args.bytes.now c.args.pos g.L.Flavor.ALLOW_CYCLES str c.in-Some.target c.metadata-len.result leads own
    _ _ _ c.if-not-branch.true c.in_ok-visit.ensures

pub returns-in_err-check_behind-clause-exact : goal.returns-in_err-check_behind-clause-exact
returns-in_err-check_behind-clause-exact g c names =
    let own : word_at (window c.args.bytes.now c.args.pos 8) 4 ≡ c.metadata-len.result =
    ap (λ bs. word_at (window bs c.args.pos 8) 4) (sym (ap (λ bytes. bytes.now) c.new-pointer.ensures.bytes))
    ∙ ap (λ n. word_at (window c.new-pointer.result.bytes.now n 8) 4) (sym c.new-pointer.ensures.pos) ∙ c.metadata-len.ensures.own refl in
    let leads = target_found c.args.bytes.now c.args.pos 8 (omega arith) c.type_inv.bytes (omega (arith, c.requires.fits)) c.new-pointer.result.bytes.now c.new-pointer.result.pos (ap (λ bytes. bytes.now) c.new-pointer.ensures.bytes) c.new-pointer.ensures.pos c.in-Some.target c.in-Some.ensures in
    fault_checked names c.args.bytes.now c.args.pos g.L.Flavor.ALLOW_CYCLES str c.in-Some.target c.metadata-len.result leads own
    _ _ _ c.if-not-branch.false c.in_ok-visit.ensures _ _ c.in_err-check_behind.field-0.0 (search rules)
    (c.in_err-check_behind.ensures.exact names)

pub returns-clause-exact : goal.returns-clause-exact
returns-clause-exact g c names =
    let own : word_at (window c.args.bytes.now c.args.pos 8) 4 ≡ c.metadata-len.result =
    ap (λ bs. word_at (window bs c.args.pos 8) 4) (sym (ap (λ bytes. bytes.now) c.new-pointer.ensures.bytes))
    ∙ ap (λ n. word_at (window c.new-pointer.result.bytes.now n 8) 4) (sym c.new-pointer.ensures.pos) ∙ c.metadata-len.ensures.own refl in
    let leads = target_found c.args.bytes.now c.args.pos 8 (omega arith) c.type_inv.bytes (omega (arith, c.requires.fits)) c.new-pointer.result.bytes.now c.new-pointer.result.pos (ap (λ bytes. bytes.now) c.new-pointer.ensures.bytes) c.new-pointer.ensures.pos c.in-Some.target c.in-Some.ensures in
    first_checked names c.args.bytes.now c.args.pos g.L.Flavor.ALLOW_CYCLES str c.in-Some.target c.metadata-len.result leads own
    _ _ _ c.if-not-branch.false c.in_ok-visit.ensures _ _ _
    (c.in_ok-check_behind.ensures.exact names) c.finish_shared.ensures
