use Rattle.cabinet_examples.proofs.CanonicalLemmas.{canonical_number}
use Rattle.cabinet_examples.proofs.canonical.canonical_archives.number_is_canonical.Goals as goal

pub returns : goal.returns
returns c = canonical_number
