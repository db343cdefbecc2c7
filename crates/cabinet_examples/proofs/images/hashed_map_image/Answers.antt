use Rattle.cabinet_examples.proofs.MapImages.{hashed_map_image}
use Rattle.cabinet_examples.proofs.images.hashed_map_image.Goals as goal

pub returns : goal.returns
returns c = hashed_map_image
