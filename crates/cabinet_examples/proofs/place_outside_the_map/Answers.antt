use Rattle.cabinet_examples.proofs.Refused.{place_outside_the_map}
use Rattle.cabinet_examples.proofs.place_outside_the_map.Goals as goal

pub returns : goal.returns
returns c = place_outside_the_map
