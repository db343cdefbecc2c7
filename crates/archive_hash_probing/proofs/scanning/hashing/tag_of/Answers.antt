use Rattle.std.proofs.Common.{arith}
use Rattle.std.proofs.lemmas.Grind.{common_steps}
use Rattle.archive_shape_canonical.specs.FirstFit.{hash_tag}
use Rattle.archive_hash_probing.proofs.scanning.hashing.tag_of.Goals as goal

pub returns-clause-value : goal.returns-clause-value
unfolding hash_tag
returns-clause-value c = grind (arith, common_steps)
