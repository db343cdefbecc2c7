use Rattle.archive_shape.proofs.Sealed.{sealed_text_law}
use Rattle.archive_shape.proofs.references.laws.sealed_text.Goals as goal

pub returns : goal.returns
returns c = sealed_text_law
