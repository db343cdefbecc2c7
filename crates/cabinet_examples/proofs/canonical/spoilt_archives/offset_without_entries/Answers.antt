use Rattle.cabinet_examples.proofs.Spoilt.{offset_to_nothing}
use Rattle.cabinet_examples.proofs.canonical.spoilt_archives.offset_without_entries.Goals as goal

pub returns : goal.returns
returns c = offset_to_nothing
