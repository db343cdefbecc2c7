use Rattle.cabinet_examples.proofs.ImageLemmas.{whole_image}
use Rattle.cabinet_examples.proofs.images.whole_image.Goals as goal

pub returns : goal.returns
returns c = whole_image
