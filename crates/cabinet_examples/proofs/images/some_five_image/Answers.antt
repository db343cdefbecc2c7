use Rattle.cabinet_examples.proofs.ImageLemmas.{some_five_image}
use Rattle.cabinet_examples.proofs.images.some_five_image.Goals as goal

pub returns : goal.returns
returns c = some_five_image
