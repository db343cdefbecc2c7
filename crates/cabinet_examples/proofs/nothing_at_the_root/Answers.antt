use Rattle.cabinet_examples.proofs.Documents.{nothing_at_the_root}
use Rattle.cabinet_examples.proofs.nothing_at_the_root.Goals as goal

pub returns : goal.returns
returns c = nothing_at_the_root
