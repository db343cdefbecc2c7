use Rattle.std.specs.Ordering.{nat_cmp}
use Rattle.std.specs.Cmp.Lexicographic.{slice_cmp}
use Rattle.std.proofs.Common.{ℕ, List, ◌∙◌, sym, ap}
use Rattle.archive_core_tests.proofs.rc.by_value.key_compared.Goals as goal

pub returns : goal.returns
returns c =
    let key = c.compare.ensures in
    let law = c.counted_keys_are_compared_as_texts.ensures.slices in
    λ v here. key.2 ∙ law.is_by_bytes key.0 c.args.query ∙ ap (λ (t : List ℕ). slice_cmp nat_cmp t c.args.query.now) (sym ((law.represents v key.0).0 (key.1.each v here)))
