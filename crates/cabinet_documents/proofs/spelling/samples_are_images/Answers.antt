use Rattle.cabinet_documents.proofs.Samples.{samples_are_images_law}
use Rattle.cabinet_documents.proofs.spelling.samples_are_images.Goals as goal

pub returns : goal.returns
returns c = samples_are_images_law
