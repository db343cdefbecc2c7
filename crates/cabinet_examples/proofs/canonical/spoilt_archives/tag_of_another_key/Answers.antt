use Rattle.cabinet_examples.proofs.Spoilt.{wrong_tag}
use Rattle.cabinet_examples.proofs.canonical.spoilt_archives.tag_of_another_key.Goals as goal

pub returns : goal.returns
returns c = wrong_tag
