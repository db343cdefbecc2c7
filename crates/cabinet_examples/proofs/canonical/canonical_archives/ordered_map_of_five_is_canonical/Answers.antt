use Rattle.cabinet_examples.proofs.CanonicalLemmas.{canonical_leaf_of_five}
use Rattle.cabinet_examples.proofs.canonical.canonical_archives.ordered_map_of_five_is_canonical.Goals as goal

pub returns : goal.returns
returns c = canonical_leaf_of_five
