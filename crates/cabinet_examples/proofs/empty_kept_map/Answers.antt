use Rattle.cabinet_examples.proofs.Documents.{empty_kept_map}
use Rattle.cabinet_examples.proofs.empty_kept_map.Goals as goal

pub returns : goal.returns
returns c = empty_kept_map
