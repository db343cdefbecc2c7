use Rattle.cabinet_examples.proofs.Documents.{empty_list}
use Rattle.cabinet_examples.proofs.empty_list.Goals as goal

pub returns : goal.returns
returns c = empty_list
