use Rattle.cabinet_examples.proofs.Spoilt.{text_standing_twice}
use Rattle.cabinet_examples.proofs.canonical.spoilt_archives.shared_text_that_stands_twice.Goals as goal

pub returns : goal.returns
returns c = text_standing_twice
