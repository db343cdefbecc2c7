use Rattle.cabinet_examples.proofs.CanonicalLemmas.{canonical_ordered_map}
use Rattle.cabinet_examples.proofs.canonical.canonical_archives.ordered_map_of_two_is_canonical.Goals as goal

pub returns : goal.returns
returns c = canonical_ordered_map
