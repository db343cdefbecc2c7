use Rattle.cabinet_examples.proofs.MapImages.{kept_map_image}
use Rattle.cabinet_examples.proofs.images.kept_map_image.Goals as goal

pub returns : goal.returns
returns c = kept_map_image
