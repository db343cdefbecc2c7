use Rattle.cabinet_examples.proofs.ImageLemmas.{shared_text_image}
use Rattle.cabinet_examples.proofs.images.shared_text_image.Goals as goal

pub returns : goal.returns
returns c = shared_text_image
