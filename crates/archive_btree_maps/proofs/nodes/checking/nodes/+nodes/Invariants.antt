use Rattle.std.proofs.Common.{◌+◌, ◌-◌, ◌*◌, ◌≤◌, List, length}
use Rattle.archive_shape_layout.specs.Content.{Names, children}
use Rattle.archive_shape_layout.specs.Holds.{Visit, OpenShared}
use Rattle.archive_shape.specs.Kept.{Records, Advances}
use Rattle.archive_btree_maps.proofs.Counting.{CountLeft}
use Rattle.archive_btree_maps.proofs.nodes.checking.nodes.+nodes.Given as goal

abbrev pub decreases-check_child : goal.decreases-check_child
decreases-check_child g l = 4 * (33 - l.level) + 2

abbrev pub decreases-check_node : goal.decreases-check_node
decreases-check_node g l = 4 * (33 - l.level) + 1

abbrev pub decreases-check_inner : goal.decreases-check_inner
decreases-check_inner g l = 4 * (33 - l.level)

abbrev pub decreases-check_children : goal.decreases-check_children
decreases-check_children g l = 4 * (33 - l.level) + 3

abbrev pub invariant-check_children-loop-i : goal.invariant-check_children-loop-i
invariant-check_children-loop-i g l =
    let old = g.C.ArchiveContext.kept l.fn.context in
    let now = g.C.ArchiveContext.kept l.context in
    let k = g.K.Portable.shape in
    let v = g.V.Portable.shape in
    record {
      advances : Advances old now;
      fits : l.at + (l.pointers - l.i) * 4 ≤ length l.bytes;
      left : (names : Names) → g.K.Portable.knows names → g.V.Portable.knows names → (inside : List OpenShared) (before : List Visit) → Records old.seen inside before
          → (mid : List Visit) × Records now.seen inside mid × CountLeft names l.bytes inside before (children l.pointers l.level g.row.E k v l.pos) old mid (children (l.pointers - l.i) l.level g.row.E k v l.at) now l.total;
    }
