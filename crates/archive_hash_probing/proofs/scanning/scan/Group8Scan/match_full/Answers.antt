use Rattle.std.proofs.Common.{map, refl}
use Rattle.std.specs.Int.{w64, to_le_bytes}
use Rattle.archive_hash_probing.specs.Scanning.{is_full}
use Rattle.archive_hash_probing.proofs.WordLemmas.{fulls_are}
use Rattle.archive_hash_probing.proofs.scanning.scan.Group8Scan.match_full.Goals as goal

pub returns : goal.returns
returns c = c.gathered.ensures (map is_full (to_le_bytes w64 c.args.self.word)) refl (fulls_are c.args.self.word c.args.self.fits)
