use Rattle.std.proofs.Common.{◌+◌, ◌-◌, ◌*◌, ◌≤◌, List, length}
use Rattle.archive_shape_layout.specs.Shape.{size_of}
use Rattle.archive_shape_layout.specs.Content.{Names, elements}
use Rattle.archive_shape_layout.specs.Holds.{Visit, OpenShared}
use Rattle.archive_shape.specs.Kept.{Records, Advances}
use Rattle.archive_shape.proofs.Ordered.{Left}
use Rattle.archive_shape.proofs.checking.elements.check_slice_each.Given as goal

abbrev pub invariant-loop-i : goal.invariant-loop-i
invariant-loop-i g l =
    let old = g.C.ArchiveContext.kept l.fn.context in
    let now = g.C.ArchiveContext.kept l.context in
    record {
      advances : Advances old now;
      fits : l.at + (l.len - l.i) * size_of g.T.Portable.shape ≤ length l.bytes;
      left : (names : Names) → g.T.Portable.knows names → (inside : List OpenShared) (before : List Visit) → Records old.seen inside before
          → (mid : List Visit) × Records now.seen inside mid × Left names l.bytes inside before (elements l.pos l.len g.T.Portable.shape) old mid (elements l.at (l.len - l.i) g.T.Portable.shape) now;
    }
