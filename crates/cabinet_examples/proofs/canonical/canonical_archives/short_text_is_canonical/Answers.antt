use Rattle.cabinet_examples.proofs.CanonicalLemmas.{canonical_short_text}
use Rattle.cabinet_examples.proofs.canonical.canonical_archives.short_text_is_canonical.Goals as goal

pub returns : goal.returns
returns c = canonical_short_text
