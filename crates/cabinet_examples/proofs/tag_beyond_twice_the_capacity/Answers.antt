use Rattle.cabinet_examples.proofs.Refused.{tag_beyond_twice_the_capacity}
use Rattle.cabinet_examples.proofs.tag_beyond_twice_the_capacity.Goals as goal

pub returns : goal.returns
returns c = tag_beyond_twice_the_capacity
