use Rattle.archive_shape_canonical.proofs.Editing.{canonical_edit_of_text_law}
use Rattle.archive_shape_canonical.proofs.laws.canonical_edit_of_text.Goals as goal

pub returns : goal.returns
returns c = canonical_edit_of_text_law
