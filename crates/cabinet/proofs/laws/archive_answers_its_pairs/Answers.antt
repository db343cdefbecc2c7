use Rattle.cabinet.proofs.KeyLemmas.{archive_answers_its_pairs_law}
use Rattle.cabinet.proofs.laws.archive_answers_its_pairs.Goals as goal

pub returns : goal.returns
returns c = archive_answers_its_pairs_law c.map_answers_its_pairs.ensures
