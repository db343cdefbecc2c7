use Rattle.cabinet_examples.proofs.CanonicalLemmas.{canonical_empty_ordered_map}
use Rattle.cabinet_examples.proofs.canonical.canonical_archives.empty_ordered_map_is_canonical.Goals as goal

pub returns : goal.returns
returns c = canonical_empty_ordered_map
