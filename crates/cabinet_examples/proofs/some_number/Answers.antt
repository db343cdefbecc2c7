use Rattle.cabinet_examples.proofs.Documents.{some_number}
use Rattle.cabinet_examples.proofs.some_number.Goals as goal

pub returns : goal.returns
returns c = some_number
