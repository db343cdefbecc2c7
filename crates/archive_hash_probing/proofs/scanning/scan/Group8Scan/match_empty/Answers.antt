use Rattle.std.proofs.Common.{map, refl}
use Rattle.std.specs.Int.{w64, to_le_bytes}
use Rattle.archive_shape_canonical.specs.Reach.{is_empty}
use Rattle.archive_hash_probing.proofs.WordLemmas.{empties_are}
use Rattle.archive_hash_probing.proofs.scanning.scan.Group8Scan.match_empty.Goals as goal

pub returns : goal.returns
returns c = c.gathered.ensures (map is_empty (to_le_bytes w64 c.args.self.word)) refl (empties_are c.args.self.word c.args.self.fits)
