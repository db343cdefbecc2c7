use Rattle.cabinet_examples.proofs.ImageLemmas.{nothing_image}
use Rattle.cabinet_examples.proofs.images.nothing_image.Goals as goal

pub returns : goal.returns
returns c = nothing_image
