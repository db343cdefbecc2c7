use Rattle.cabinet_examples.proofs.Documents.{whole_twice}
use Rattle.cabinet_examples.proofs.whole_twice.Goals as goal

pub returns : goal.returns
returns c = whole_twice
