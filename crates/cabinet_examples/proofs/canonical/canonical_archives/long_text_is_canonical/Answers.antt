use Rattle.cabinet_examples.proofs.CanonicalLemmas.{canonical_long_text}
use Rattle.cabinet_examples.proofs.canonical.canonical_archives.long_text_is_canonical.Goals as goal

pub returns : goal.returns
returns c = canonical_long_text
