use Rattle.archive_hash_probing.proofs.WordLemmas.{marked_is}
use Rattle.archive_hash_probing.proofs.scanning.word.marked.Goals as goal

pub returns : goal.returns
returns c = λ xs long bytes e. marked_is xs c.args.word long bytes e
