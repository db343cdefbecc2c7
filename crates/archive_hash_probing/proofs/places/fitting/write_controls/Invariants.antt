use Rattle.std.proofs.Common.{◌≡◌, [], take}
use Rattle.archive_shape_canonical.specs.FirstFit.{written_controls}
use Rattle.archive_hash_probing.proofs.Fit.{IsFirstFit}
use Rattle.archive_hash_probing.proofs.places.fitting.write_controls.Given as goal

abbrev pub invariant-loop-i : goal.invariant-loop-i
invariant-loop-i g l =
    IsFirstFit l.capacity [] (take l.i l.hashes) (take l.i l.places)
    × (l.controls ≡ written_controls l.capacity (take l.i l.hashes) (take l.i l.places))
