use Rattle.cabinet_examples.proofs.Spoilt.{other_filler}
use Rattle.cabinet_examples.proofs.canonical.spoilt_archives.filler_of_a_text_that_is_not_ff.Goals as goal

pub returns : goal.returns
returns c = other_filler
