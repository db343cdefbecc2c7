use Rattle.archive_hash_probing.proofs.Coverage.{every_place}
use Rattle.archive_hash_probing.proofs.places.laws.every_place_is_shown.Goals as goal

pub returns : goal.returns
returns c = every_place c.args.hash c.args.capacity c.args.place c.requires
