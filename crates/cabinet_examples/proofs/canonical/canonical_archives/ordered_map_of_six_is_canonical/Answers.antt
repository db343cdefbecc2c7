use Rattle.cabinet_examples.proofs.CanonicalLemmas.{canonical_tree_of_six}
use Rattle.cabinet_examples.proofs.canonical.canonical_archives.ordered_map_of_six_is_canonical.Goals as goal

pub returns : goal.returns
returns c = canonical_tree_of_six
