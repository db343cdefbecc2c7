use Rattle.std.proofs.Common.{◌≡◌, length, arith, refl, sym, ap, ◌∙◌}
use Rattle.archive_shape_layout.specs.Bytes.{window, word_at, align_up}
use Rattle.archive_forms_values.proofs.Texts.{boxed_str_points, boxed_str_there}
use Rattle.archive_forms_values.proofs.boxed.boxed_str.text_at.Goals as goal

pub metadata-len-requires : goal.metadata-len-requires
unfolding align_up
metadata-len-requires c =
    let there = ap (λ bytes. length bytes.now) c.new.ensures.bytes in
    omega (arith, c.requires.held.own_within, there, c.new.ensures.pos)

pub target_of-requires-clause-leads : goal.target_of-requires-clause-leads
target_of-requires-clause-leads c = boxed_str_points c.args.bytes.now c.args.pos c.requires

pub returns : goal.returns
returns c =
    let own : word_at (window c.args.bytes.now c.args.pos 8) 4 ≡ c.metadata-len.result =
    ap (λ bs. word_at (window bs c.args.pos 8) 4) (sym (ap (λ bytes. bytes.now) c.new.ensures.bytes))
    ∙ ap (λ n. word_at (window c.new.result.bytes.now n 8) 4) (sym c.new.ensures.pos) ∙ c.metadata-len.ensures.own refl in
    boxed_str_there c.args.bytes.now c.args.pos _ _ c.target_of.ensures own c.requires
