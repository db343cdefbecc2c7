use Rattle.cabinet_documents.proofs.ImageKept.{edit_keeps_image_law}
use Rattle.cabinet_documents.proofs.laws.edit_keeps_image.Goals as goal

pub returns : goal.returns
returns c = edit_keeps_image_law
