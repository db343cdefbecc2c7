use Rattle.cabinet_examples.proofs.ImageLemmas.{seven_and_nineteen_image}
use Rattle.cabinet_examples.proofs.images.seven_and_nineteen_image.Goals as goal

pub returns : goal.returns
returns c = seven_and_nineteen_image
