use Rattle.archive_hash_probing.proofs.WordLemmas.{gathered_is}
use Rattle.archive_hash_probing.proofs.scanning.word.gathered.Goals as goal

pub returns : goal.returns
returns c = λ marks long e. gathered_is marks c.args.word long e
