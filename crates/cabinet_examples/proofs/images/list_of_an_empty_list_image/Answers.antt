use Rattle.cabinet_examples.proofs.ImageLemmas.{list_of_an_empty_list_image}
use Rattle.cabinet_examples.proofs.images.list_of_an_empty_list_image.Goals as goal

pub returns : goal.returns
returns c = list_of_an_empty_list_image
