use Rattle.archive_forms_laws.specs.SpellingLaws.{KnowsAll}
use Rattle.archive_forms_laws.proofs.Leaves.{leaf_spells}
use Rattle.archive_forms_laws.proofs.spelling.leaf_spells.Goals as goal

pub returns : goal.returns
returns g c = λ fit s bytes_of value_of l. leaf_spells fit s KnowsAll bytes_of value_of l
