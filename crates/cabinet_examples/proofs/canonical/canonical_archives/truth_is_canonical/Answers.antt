use Rattle.cabinet_examples.proofs.CanonicalLemmas.{canonical_truth}
use Rattle.cabinet_examples.proofs.canonical.canonical_archives.truth_is_canonical.Goals as goal

pub returns : goal.returns
returns c = canonical_truth
