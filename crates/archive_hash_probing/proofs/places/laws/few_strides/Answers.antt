use Rattle.archive_hash_probing.proofs.Coverage.{few_strides}
use Rattle.archive_hash_probing.proofs.places.laws.few_strides.Goals as goal

pub returns : goal.returns
returns c = few_strides c.args.hash c.args.capacity c.requires
