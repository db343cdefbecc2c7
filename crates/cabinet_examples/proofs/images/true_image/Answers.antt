use Rattle.cabinet_examples.proofs.ImageLemmas.{true_image}
use Rattle.cabinet_examples.proofs.images.true_image.Goals as goal

pub returns : goal.returns
returns c = true_image
