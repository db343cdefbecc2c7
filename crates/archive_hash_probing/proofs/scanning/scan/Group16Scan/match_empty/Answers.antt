use Rattle.std.proofs.Common.{leb}
use Rattle.archive_hash_probing.proofs.MarkLemmas.{lanes_left}
use Rattle.archive_hash_probing.proofs.scanning.scan.Group16Scan.match_empty.Goals as goal

pub returns : goal.returns
returns c = lanes_left (λ x y. leb x y) c.args.self.lanes 128 c.args.self.sixteen
