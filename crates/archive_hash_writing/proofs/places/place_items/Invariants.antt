use Rattle.std.proofs.Common.{◌≡◌, drop, map}
use Rattle.archive_shape_canonical.specs.FirstFit.{placed}
use Rattle.archive_hash_writing.specs.Standing.{standing}
use Rattle.archive_hash_writing.proofs.places.place_items.Given as goal

abbrev pub invariant-loop-i : goal.invariant-loop-i
invariant-loop-i g l = map standing l.table.items ≡ placed l.capacity (drop l.i l.places) (drop l.i l.items)
