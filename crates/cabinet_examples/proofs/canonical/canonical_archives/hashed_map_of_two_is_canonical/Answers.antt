use Rattle.cabinet_examples.proofs.CanonicalLemmas.{canonical_taken_place}
use Rattle.cabinet_examples.proofs.canonical.canonical_archives.hashed_map_of_two_is_canonical.Goals as goal

pub returns : goal.returns
returns c = canonical_taken_place
