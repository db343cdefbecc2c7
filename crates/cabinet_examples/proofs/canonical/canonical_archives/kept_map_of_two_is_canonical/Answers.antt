use Rattle.cabinet_examples.proofs.CanonicalLemmas.{canonical_kept_map}
use Rattle.cabinet_examples.proofs.canonical.canonical_archives.kept_map_of_two_is_canonical.Goals as goal

pub returns : goal.returns
returns c = canonical_kept_map
