use Rattle.cabinet_examples.proofs.Documents.{long_text_at_the_root}
use Rattle.cabinet_examples.proofs.long_text_at_the_root.Goals as goal

pub returns : goal.returns
returns c = long_text_at_the_root
