use Rattle.cabinet_examples.proofs.CanonicalLemmas.{canonical_empty_shared_text}
use Rattle.cabinet_examples.proofs.canonical.canonical_archives.empty_shared_text_twice_is_canonical.Goals as goal

pub returns : goal.returns
returns c = canonical_empty_shared_text
