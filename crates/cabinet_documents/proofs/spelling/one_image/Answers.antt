use Rattle.cabinet_documents.proofs.Imaged.{one_image_law}
use Rattle.cabinet_documents.proofs.spelling.one_image.Goals as goal

pub returns : goal.returns
returns c = one_image_law
