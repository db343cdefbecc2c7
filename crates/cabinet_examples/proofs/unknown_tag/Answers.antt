use Rattle.cabinet_examples.proofs.Refused.{unknown_tag}
use Rattle.cabinet_examples.proofs.unknown_tag.Goals as goal

pub returns : goal.returns
returns c = unknown_tag
