use Rattle.std.proofs.Common.{◌≡◌, ◌-◌, ◌*◌, List}
use Rattle.archive_shape_layout.specs.Content.{Names, place}
use Rattle.archive_shape_layout.specs.Holds.{Visit, OpenShared}
use Rattle.archive_shape.specs.Kept.{Kept, Records}
use Rattle.archive_hash_maps.proofs.ItemChecks.{LeftFrom}
use Rattle.archive_hash_maps.proofs.checking.places.check_numbers.Given as goal

abbrev pub invariant-loop-place : goal.invariant-loop-place
invariant-loop-place l =
    record {
      bucket : l.bucket ≡ l.target - l.place * 4;
      left : (names : Names) (kept : Kept) (inside : List OpenShared) (before : List Visit) → Records kept.seen inside before
          → LeftFrom l.target (place l.limit) l.controls names l.bytes inside before kept l.place kept;
    }
