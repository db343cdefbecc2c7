use Rattle.std.proofs.Common.{◌≡◌, ◌*◌, map, take, drop}
use lib.Lanes.{mask_l}
use Rattle.archive_shape_canonical.specs.Reach.{is_empty}
use Rattle.archive_hash_probing.proofs.scanning.stride.stride_empties.Given as goal

abbrev pub invariant-loop-i : goal.invariant-loop-i
invariant-loop-i g l = l.bits ≡ mask_l (map is_empty (take (l.i * g.S.Scan.WIDTH) (drop l.position l.controls)))
