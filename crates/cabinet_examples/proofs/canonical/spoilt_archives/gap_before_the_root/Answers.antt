use Rattle.cabinet_examples.proofs.Spoilt.{gap_before_root}
use Rattle.cabinet_examples.proofs.canonical.spoilt_archives.gap_before_the_root.Goals as goal

pub returns : goal.returns
returns c = gap_before_root
