use Rattle.cabinet_examples.proofs.MapImages.{ordered_map_image}
use Rattle.cabinet_examples.proofs.images.ordered_map_image.Goals as goal

pub returns : goal.returns
returns c = ordered_map_image
