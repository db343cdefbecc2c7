use Rattle.cabinet_examples.proofs.CanonicalLemmas.{canonical_nothing}
use Rattle.cabinet_examples.proofs.canonical.canonical_archives.nothing_is_canonical.Goals as goal

pub returns : goal.returns
returns c = canonical_nothing
