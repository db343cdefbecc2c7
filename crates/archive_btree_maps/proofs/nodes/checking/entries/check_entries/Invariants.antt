use Rattle.std.proofs.Common.{◌+◌, ◌-◌, ◌*◌, ◌≤◌, List, length}
use Rattle.archive_shape_layout.specs.Shape.{size_of}
use Rattle.archive_shape_layout.specs.Content.{Names, entries}
use Rattle.archive_shape_layout.specs.Holds.{Visit, OpenShared}
use Rattle.archive_shape.specs.Kept.{Records, Advances}
use Rattle.archive_shape.proofs.Ordered.{Left}
use Rattle.archive_btree_maps.proofs.nodes.checking.entries.check_entries.Given as goal

abbrev pub invariant-loop-i : goal.invariant-loop-i
invariant-loop-i g l =
    let old = g.C.ArchiveContext.kept l.fn.context in
    let now = g.C.ArchiveContext.kept l.context in
    let k = g.K.Portable.shape in
    let v = g.V.Portable.shape in
    record {
      advances : Advances old now;
      keys_fit : l.key + (l.count - l.i) * size_of k ≤ length l.bytes;
      values_fit : l.value + (l.count - l.i) * size_of v ≤ length l.bytes;
      left : (names : Names) → g.K.Portable.knows names → g.V.Portable.knows names → (inside : List OpenShared) (before : List Visit) → Records old.seen inside before
          → (mid : List Visit) × Records now.seen inside mid × Left names l.bytes inside before (entries l.count k l.key_pos v l.value_pos) old mid (entries (l.count - l.i) k l.key v l.value) now;
    }
