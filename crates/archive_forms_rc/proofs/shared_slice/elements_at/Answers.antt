use Rattle.std.proofs.Common.{◌≡◌, length, arith, refl, sym, ap, ◌∙◌}
use Rattle.archive_shape_layout.specs.Bytes.{window, word_at, align_up}
use Rattle.archive_shape_layout.specs.Shape.Pointee.{slice}
use Rattle.archive_forms_rc.proofs.Led.{pointer_points, rc_slice_there}
use Rattle.archive_forms_rc.proofs.shared_slice.elements_at.Goals as goal

pub metadata-len-requires : goal.metadata-len-requires
unfolding align_up
metadata-len-requires g c =
    let there = ap (λ bytes. length bytes.now) c.new.ensures.bytes in
    omega (arith, c.requires.held.own_within, there, c.new.ensures.pos)

pub target_of-requires-clause-leads : goal.target_of-requires-clause-leads
target_of-requires-clause-leads g c =
    pointer_points g.L.Flavor.ALLOW_CYCLES (slice g.T.Portable.shape) g.T.Portable.knows c.args.bytes.now c.args.pos c.requires

pub returns : goal.returns
returns g c =
    let own : word_at (window c.args.bytes.now c.args.pos 8) 4 ≡ c.metadata-len.result =
    ap (λ bs. word_at (window bs c.args.pos 8) 4) (sym (ap (λ bytes. bytes.now) c.new.ensures.bytes))
    ∙ ap (λ n. word_at (window c.new.result.bytes.now n 8) 4) (sym c.new.ensures.pos) ∙ c.metadata-len.ensures.own refl in
    rc_slice_there g.L.Flavor.ALLOW_CYCLES g.T.Portable.shape g.T.Portable.knows c.args.bytes.now c.args.pos _ c.target_of.ensures _ own
