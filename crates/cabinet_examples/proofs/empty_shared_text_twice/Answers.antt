use Rattle.cabinet_examples.proofs.Documents.{empty_shared_text_twice}
use Rattle.cabinet_examples.proofs.empty_shared_text_twice.Goals as goal

pub returns : goal.returns
returns c = empty_shared_text_twice
