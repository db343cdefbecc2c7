use Rattle.cabinet_examples.proofs.CanonicalLemmas.{canonical_whole}
use Rattle.cabinet_examples.proofs.canonical.canonical_archives.whole_twice_is_canonical.Goals as goal

pub returns : goal.returns
returns c = canonical_whole
