use Rattle.archive_shape_layout.proofs.Naming.{own_types}
use Rattle.archive_shape.proofs.types.laws.named_is_known.Goals as goal

pub returns : goal.returns
returns g c = λ one. g.met.T.Portable.known _ (own_types _ one)
