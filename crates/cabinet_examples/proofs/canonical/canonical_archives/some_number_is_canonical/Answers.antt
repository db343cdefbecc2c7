use Rattle.cabinet_examples.proofs.CanonicalLemmas.{canonical_some_number}
use Rattle.cabinet_examples.proofs.canonical.canonical_archives.some_number_is_canonical.Goals as goal

pub returns : goal.returns
returns c = canonical_some_number
