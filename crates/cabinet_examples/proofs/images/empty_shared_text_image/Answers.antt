use Rattle.cabinet_examples.proofs.ImageLemmas.{empty_shared_text_image}
use Rattle.cabinet_examples.proofs.images.empty_shared_text_image.Goals as goal

pub returns : goal.returns
returns c = empty_shared_text_image
