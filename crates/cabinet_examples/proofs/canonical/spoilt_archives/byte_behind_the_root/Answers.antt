use Rattle.cabinet_examples.proofs.Spoilt.{byte_behind_root}
use Rattle.cabinet_examples.proofs.canonical.spoilt_archives.byte_behind_the_root.Goals as goal

pub returns : goal.returns
returns c = byte_behind_root
