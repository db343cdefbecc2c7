use Rattle.cabinet_examples.proofs.CanonicalLemmas.{canonical_hashed_map}
use Rattle.cabinet_examples.proofs.canonical.canonical_archives.hashed_map_of_one_is_canonical.Goals as goal

pub returns : goal.returns
returns c = canonical_hashed_map
