use Rattle.cabinet_examples.proofs.Spoilt.{gap_before_box}
use Rattle.cabinet_examples.proofs.canonical.spoilt_archives.gap_before_a_box.Goals as goal

pub returns : goal.returns
returns c = gap_before_box
