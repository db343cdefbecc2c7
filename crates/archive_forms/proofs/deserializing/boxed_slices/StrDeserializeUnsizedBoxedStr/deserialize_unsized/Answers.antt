use Rattle.std.proofs.Common.{sym, ap, ◌∙◌}
use Rattle.archive_shape_layout.specs.Value.Value.{string}
use Rattle.archive_shape_canonical.specs.Sharing.{erased}
use Rattle.archive_forms.proofs.deserializing.boxed_slices.StrDeserializeUnsizedBoxedStr.deserialize_unsized.Goals as goal

pub returns-in-Ok-clause-value : goal.returns-in-Ok-clause-value
returns-in-Ok-clause-value c = λ v held.
    let there = c.get.ensures in
    ap string (c.in-Ok.ensures.ok ∙ there.3) ∙ sym (ap erased (there.2.value v held))
