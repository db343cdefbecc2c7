use Rattle.cabinet_examples.proofs.CanonicalLemmas.{canonical_empty_list}
use Rattle.cabinet_examples.proofs.canonical.canonical_archives.empty_list_is_canonical.Goals as goal

pub returns : goal.returns
returns c = canonical_empty_list
