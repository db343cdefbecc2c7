use Rattle.std.proofs.Common.{rules, ap}
use Rattle.archive_shape_canonical.specs.Sharing.{erased}
use Rattle.archive_forms.proofs.deserializing.pointer_sized.ArchivedIsizeDeserializeIsize.deserialize.Goals as goal

pub returns-clause-value : goal.returns-clause-value
returns-clause-value c = λ v h. let e = ap erased (c.native_of.ensures v h) in search (rules, e)
