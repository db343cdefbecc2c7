use Rattle.cabinet_examples.proofs.ImageLemmas.{five_image}
use Rattle.cabinet_examples.proofs.images.five_image.Goals as goal

pub returns : goal.returns
returns c = five_image
