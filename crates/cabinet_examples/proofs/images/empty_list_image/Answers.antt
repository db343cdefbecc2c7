use Rattle.cabinet_examples.proofs.ImageLemmas.{empty_list_image}
use Rattle.cabinet_examples.proofs.images.empty_list_image.Goals as goal

pub returns : goal.returns
returns c = empty_list_image
