use Rattle.cabinet_examples.proofs.Refused.{unknown_tag_of_an_option}
use Rattle.cabinet_examples.proofs.unknown_tag_of_an_option.Goals as goal

pub returns : goal.returns
returns c = unknown_tag_of_an_option
