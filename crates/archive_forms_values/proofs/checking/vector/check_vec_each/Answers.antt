use Rattle.std.proofs.Common.{arith, ◌*◌, ◌-◌, ◌^◌, min, length, ◌≡◌, refl, sym, ap, ◌∙◌}
use Rattle.archive_shape_layout.specs.Bytes.{window, word_at, align_up}
use Rattle.archive_shape_layout.specs.Shape.{size_of}
use Rattle.archive_shape_layout.specs.Shape.Shape.{vector}
use Rattle.archive_forms_values.proofs.Contents.{astray_refused, vector_checked}
use Rattle.archive_forms_values.proofs.Claimed.{elements_cut}
use Rattle.archive_forms_values.proofs.Targets.{target_found, target_missed}
use Rattle.archive_forms_values.proofs.checking.vector.check_vec_each.Goals as goal

pub metadata-len-requires : goal.metadata-len-requires
unfolding align_up
metadata-len-requires g c =
    let there = ap (λ bytes. length bytes.now) c.new-pointer.ensures.bytes in
    omega (arith, c.requires.fits, there, c.new-pointer.ensures.pos)

pub returns-in_default-clause-exact : goal.returns-in_default-clause-exact
returns-in_default-clause-exact g c names known =
    let own : word_at (window c.args.bytes.now c.args.pos 8) 4 ≡ c.metadata-len.result =
    ap (λ bs. word_at (window bs c.args.pos 8) 4) (sym (ap (λ bytes. bytes.now) c.new-pointer.ensures.bytes))
    ∙ ap (λ n. word_at (window c.new-pointer.result.bytes.now n 8) 4) (sym c.new-pointer.ensures.pos) ∙ c.metadata-len.ensures.own refl in
    astray_refused names c.args.bytes.now c.args.pos (vector g.T.Portable.shape) _ _ (word_at (window c.args.bytes.now c.args.pos 8) 4 * size_of g.T.Portable.shape) _ (g.C.ArchiveContext.kept c.args.context.now) refl
    (target_missed c.args.bytes.now c.args.pos 8 (omega arith) c.type_inv.bytes (omega (arith, c.requires.fits)) c.new-pointer.result.bytes.now c.new-pointer.result.pos (ap (λ bytes. bytes.now) c.new-pointer.ensures.bytes) c.new-pointer.ensures.pos c.in_default.ensures)
    (elements_cut _ (word_at (window c.args.bytes.now c.args.pos 8) 4) c.SIZE-element.result (size_of g.T.Portable.shape)
    (c.saturating_mul-size.ensures ∙ ap (λ n. min (n * c.SIZE-element.result) (2 ^ 64 - 1)) (sym own))
    (c.SIZE-element.ensures ∙ g.met.T.Portable.sized))

pub returns-clause-exact : goal.returns-clause-exact
returns-clause-exact g c names known =
    let own : word_at (window c.args.bytes.now c.args.pos 8) 4 ≡ c.metadata-len.result =
    ap (λ bs. word_at (window bs c.args.pos 8) 4) (sym (ap (λ bytes. bytes.now) c.new-pointer.ensures.bytes))
    ∙ ap (λ n. word_at (window c.new-pointer.result.bytes.now n 8) 4) (sym c.new-pointer.ensures.pos) ∙ c.metadata-len.ensures.own refl in
    vector_checked names c.args.bytes.now c.args.pos g.T.Portable.shape c.in-Some.target _ _ _ c.metadata-len.result
    (target_found c.args.bytes.now c.args.pos 8 (omega arith) c.type_inv.bytes (omega (arith, c.requires.fits)) c.new-pointer.result.bytes.now c.new-pointer.result.pos (ap (λ bytes. bytes.now) c.new-pointer.ensures.bytes) c.new-pointer.ensures.pos c.in-Some.target c.in-Some.ensures)
    own (c.check_elements_behind.ensures.exact names known)
