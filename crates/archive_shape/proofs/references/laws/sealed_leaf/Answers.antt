use Rattle.archive_shape.proofs.Sealed.{sealed_leaf_law}
use Rattle.archive_shape.proofs.references.laws.sealed_leaf.Goals as goal

pub returns : goal.returns
returns c = sealed_leaf_law
