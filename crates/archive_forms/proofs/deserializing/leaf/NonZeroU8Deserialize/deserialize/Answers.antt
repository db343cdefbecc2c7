use Rattle.std.proofs.Common.{ap}
use Rattle.archive_shape_canonical.specs.Sharing.{erased}
use Rattle.archive_forms.proofs.deserializing.leaf.NonZeroU8Deserialize.deserialize.Goals as goal

pub returns-clause-value : goal.returns-clause-value
returns-clause-value c = λ v h. ap erased (c.native_of.ensures v h)
