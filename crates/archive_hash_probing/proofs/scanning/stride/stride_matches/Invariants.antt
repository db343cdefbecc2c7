use Rattle.std.proofs.Common.{◌≡◌, ◌*◌, Bool, List, take, drop}
use lib.Lanes.{mask_l}
use Rattle.archive_hash_probing.specs.Scanning.{IsMatch}
use Rattle.archive_hash_probing.proofs.scanning.stride.stride_matches.Given as goal

abbrev pub invariant-loop-i : goal.invariant-loop-i
invariant-loop-i g l = (marks : List Bool) × (l.bits ≡ mask_l marks) × IsMatch l.tag (take (l.i * g.S.Scan.WIDTH) (drop l.position l.controls)) marks
