use Rattle.cabinet_examples.proofs.CanonicalLemmas.{hash_of_a}
use Rattle.cabinet_examples.proofs.canonical.canonical_archives.hash_of_a.Goals as goal

pub returns : goal.returns
returns c = hash_of_a
