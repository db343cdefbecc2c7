use Rattle.cabinet_examples.proofs.ImageLemmas.{world_image}
use Rattle.cabinet_examples.proofs.images.world_image.Goals as goal

pub returns : goal.returns
returns c = world_image
