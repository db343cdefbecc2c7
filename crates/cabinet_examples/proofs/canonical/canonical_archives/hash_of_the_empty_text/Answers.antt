use Rattle.cabinet_examples.proofs.CanonicalLemmas.{hash_of_nothing}
use Rattle.cabinet_examples.proofs.canonical.canonical_archives.hash_of_the_empty_text.Goals as goal

pub returns : goal.returns
returns c = hash_of_nothing
