use Rattle.cabinet_examples.proofs.ImageLemmas.{long_text_image}
use Rattle.cabinet_examples.proofs.images.long_text_image.Goals as goal

pub returns : goal.returns
returns c = long_text_image
