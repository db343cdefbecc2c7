use Rattle.cabinet_examples.proofs.Documents.{number_at_the_root}
use Rattle.cabinet_examples.proofs.number_at_the_root.Goals as goal

pub returns : goal.returns
returns c = number_at_the_root
