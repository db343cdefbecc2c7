use Rattle.cabinet_examples.proofs.Doubtful.{hashed_map_with_another_tag}
use Rattle.cabinet_examples.proofs.hashed_map_with_another_tag.Goals as goal

pub returns : goal.returns
returns c = hashed_map_with_another_tag
