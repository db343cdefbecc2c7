use Rattle.std.proofs.Common.{arith}
use Rattle.std.proofs.lemmas.Grind.{common_steps}
use Rattle.archive_shape.proofs.references.place.Place.write.Goals as goal

pub returns-clause-contents : goal.returns-clause-contents
returns-clause-contents g c = grind (arith, common_steps)
