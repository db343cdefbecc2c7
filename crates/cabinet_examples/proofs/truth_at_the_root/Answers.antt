use Rattle.cabinet_examples.proofs.Documents.{truth_at_the_root}
use Rattle.cabinet_examples.proofs.truth_at_the_root.Goals as goal

pub returns : goal.returns
returns c = truth_at_the_root
