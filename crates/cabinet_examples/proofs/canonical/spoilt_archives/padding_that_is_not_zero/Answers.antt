use Rattle.cabinet_examples.proofs.Spoilt.{marked_padding}
use Rattle.cabinet_examples.proofs.canonical.spoilt_archives.padding_that_is_not_zero.Goals as goal

pub returns : goal.returns
returns c = marked_padding
