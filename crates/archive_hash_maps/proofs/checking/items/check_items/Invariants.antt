use Rattle.std.proofs.Common.{◌≡◌, ◌-◌, ◌*◌, List}
use Rattle.archive_shape_layout.specs.Shape.{size_of}
use Rattle.archive_shape_layout.specs.Content.{Names, item}
use Rattle.archive_shape_layout.specs.Holds.{Visit, OpenShared}
use Rattle.archive_shape.specs.Kept.{Records, Advances}
use Rattle.archive_hash_maps.proofs.ItemChecks.{LeftFrom}
use Rattle.archive_hash_maps.proofs.checking.items.check_items.Given as goal

abbrev pub invariant-loop-place : goal.invariant-loop-place
invariant-loop-place g l =
    let old = g.C.ArchiveContext.kept l.fn.context in
    let now = g.C.ArchiveContext.kept l.context in
    let s = g.T.Portable.shape in
    record {
      advances : Advances old now;
      bucket : l.bucket ≡ l.target - l.place * size_of s;
      left : (names : Names) → g.T.Portable.knows names → (inside : List OpenShared) (before : List Visit) → Records old.seen inside before
          → LeftFrom l.target (item s) l.controls names l.bytes inside before old l.place now;
    }
