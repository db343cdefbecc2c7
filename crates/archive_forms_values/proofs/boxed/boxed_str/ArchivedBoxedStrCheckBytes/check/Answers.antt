use Rattle.std.proofs.Common.{arith, ◌*◌, length, ◌≡◌, refl, sym, ap, ◌∙◌}
use Rattle.archive_shape_layout.specs.Bytes.{window, word_at, align_up}
use Rattle.archive_shape_layout.specs.Shape.Shape.{box}
use Rattle.archive_shape_layout.specs.Shape.Pointee.{str}
use Rattle.archive_forms_values.proofs.Contents.{astray_refused}
use Rattle.archive_forms_values.proofs.Targets.{target_found, target_missed}
use Rattle.archive_forms_values.proofs.Texts.{boxed_str_checked}
use Rattle.archive_forms_values.proofs.boxed.boxed_str.ArchivedBoxedStrCheckBytes.check.Goals as goal

pub metadata-len-requires : goal.metadata-len-requires
unfolding align_up
metadata-len-requires g c =
    let there = ap (λ bytes. length bytes.now) c.new-pointer.ensures.bytes in
    omega (arith, c.requires.fits, there, c.new-pointer.ensures.pos)

pub returns-in_default-clause-exact : goal.returns-in_default-clause-exact
returns-in_default-clause-exact g c names known =
    let own : word_at (window c.args.bytes.now c.args.pos 8) 4 ≡ c.metadata-len.result =
    ap (λ bs. word_at (window bs c.args.pos 8) 4) (sym (ap (λ bytes. bytes.now) c.new-pointer.ensures.bytes))
    ∙ ap (λ n. word_at (window c.new-pointer.result.bytes.now n 8) 4) (sym c.new-pointer.ensures.pos) ∙ c.metadata-len.ensures.own refl in
    let bound = c.metadata-len.type_inv in
    astray_refused names c.args.bytes.now c.args.pos (box str) _ _ (word_at (window c.args.bytes.now c.args.pos 8) 4 * 1) _ (g.C.ArchiveContext.kept c.args.context.now) refl
    (target_missed c.args.bytes.now c.args.pos 8 (omega arith) c.type_inv.bytes (omega (arith, c.requires.fits)) c.new-pointer.result.bytes.now c.new-pointer.result.pos (ap (λ bytes. bytes.now) c.new-pointer.ensures.bytes) c.new-pointer.ensures.pos c.in_default.ensures)
    (omega (arith, own, bound))

pub returns-clause-exact : goal.returns-clause-exact
returns-clause-exact g c names known =
    let own : word_at (window c.args.bytes.now c.args.pos 8) 4 ≡ c.metadata-len.result =
    ap (λ bs. word_at (window bs c.args.pos 8) 4) (sym (ap (λ bytes. bytes.now) c.new-pointer.ensures.bytes))
    ∙ ap (λ n. word_at (window c.new-pointer.result.bytes.now n 8) 4) (sym c.new-pointer.ensures.pos) ∙ c.metadata-len.ensures.own refl in
    boxed_str_checked c.args.bytes.now c.args.pos names c.in-Some.start _ _ _ _
    (target_found c.args.bytes.now c.args.pos 8 (omega arith) c.type_inv.bytes (omega (arith, c.requires.fits)) c.new-pointer.result.bytes.now c.new-pointer.result.pos (ap (λ bytes. bytes.now) c.new-pointer.ensures.bytes) c.new-pointer.ensures.pos c.in-Some.start c.in-Some.ensures)
    own (c.check_behind.ensures.exact names)
