use Rattle.cabinet_examples.proofs.Documents.{shared_text_twice}
use Rattle.cabinet_examples.proofs.shared_text_twice.Goals as goal

pub returns : goal.returns
returns c = shared_text_twice
