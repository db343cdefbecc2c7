use Rattle.std.proofs.Common.{rules}
use Rattle.archive_hash_probing.proofs.scanning.scan.Group1Scan.match_empty.Goals as goal

pub returns : goal.returns
returns c = search rules
