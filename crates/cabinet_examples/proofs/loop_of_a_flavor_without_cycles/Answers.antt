use Rattle.cabinet_examples.proofs.Refused.{loop_of_a_flavor_without_cycles}
use Rattle.cabinet_examples.proofs.loop_of_a_flavor_without_cycles.Goals as goal

pub returns : goal.returns
returns c = loop_of_a_flavor_without_cycles
