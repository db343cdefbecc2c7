use Rattle.cabinet_examples.proofs.CanonicalLemmas.{canonical_nested_maps}
use Rattle.cabinet_examples.proofs.canonical.canonical_archives.list_in_a_map_in_a_map_is_canonical.Goals as goal

pub returns : goal.returns
returns c = canonical_nested_maps
