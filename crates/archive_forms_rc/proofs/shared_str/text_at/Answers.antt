use Rattle.std.proofs.Common.{◌≡◌, length, arith, refl, sym, ap, ◌∙◌}
use Rattle.std.specs.Prelude.{⊤}
use Rattle.archive_shape_layout.specs.Bytes.{window, word_at, align_up}
use Rattle.archive_shape_layout.specs.Shape.Pointee.{str}
use Rattle.archive_forms_rc.proofs.Led.{pointer_points, rc_str_there}
use Rattle.archive_forms_rc.proofs.shared_str.text_at.Goals as goal

pub metadata-len-requires : goal.metadata-len-requires
unfolding align_up
metadata-len-requires g c =
    let there = ap (λ bytes. length bytes.now) c.new.ensures.bytes in
    omega (arith, c.requires.held.own_within, there, c.new.ensures.pos)

pub target_of-requires-clause-leads : goal.target_of-requires-clause-leads
target_of-requires-clause-leads g c =
    pointer_points g.L.Flavor.ALLOW_CYCLES str (λ _. ⊤) c.args.bytes.now c.args.pos
    (record { value = _; held = c.requires.held })

pub returns : goal.returns
returns g c =
    let own : word_at (window c.args.bytes.now c.args.pos 8) 4 ≡ c.metadata-len.result =
    ap (λ bs. word_at (window bs c.args.pos 8) 4) (sym (ap (λ bytes. bytes.now) c.new.ensures.bytes))
    ∙ ap (λ n. word_at (window c.new.result.bytes.now n 8) 4) (sym c.new.ensures.pos) ∙ c.metadata-len.ensures.own refl in
    rc_str_there g.L.Flavor.ALLOW_CYCLES c.args.bytes.now c.args.pos _ _ c.target_of.ensures own c.requires
