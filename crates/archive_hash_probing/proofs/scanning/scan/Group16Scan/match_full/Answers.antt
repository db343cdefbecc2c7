use Rattle.std.proofs.Common.{ltb}
use Rattle.archive_hash_probing.proofs.MarkLemmas.{lanes_right}
use Rattle.archive_hash_probing.proofs.scanning.scan.Group16Scan.match_full.Goals as goal

pub returns : goal.returns
returns c = lanes_right (λ x y. ltb x y) c.args.self.lanes 128 c.args.self.sixteen
