use Rattle.cabinet_documents.proofs.Imaged.{written_is_image_law}
use Rattle.cabinet_documents.proofs.spelling.written_is_image.Goals as goal

pub returns : goal.returns
returns c = written_is_image_law
