use Rattle.std.proofs.Common.{◌+◌, ◌*◌, ◌-◌, ◌≤◌}
use Rattle.archive_shape_layout.specs.Content.Part.{at}
use Rattle.cabinet_archives.specs.Hashed.{table_shape}
use Rattle.cabinet_archives.specs.Kept.{index_shape}
use Rattle.cabinet_archives.specs.Ordered.{map_shape}
use Rattle.cabinet_archives.specs.Sound.{AreHeights}
use Rattle.cabinet_archives.proofs.Auditing.{AreHighBefore}
use Rattle.cabinet_archives.proofs.MapsAuditing.{NodesLeft}
use Rattle.cabinet_archives.proofs.opening.audit.+audits.Given as goal

abbrev pub decreases-audit_option : goal.decreases-audit_option
decreases-audit_option g l = 2 * (64 - l.depth)

abbrev pub decreases-audit_list : goal.decreases-audit_list
decreases-audit_list g l = 2 * (64 - l.depth)

abbrev pub decreases-audit_ordered : goal.decreases-audit_ordered
decreases-audit_ordered g l = 2 * (64 - l.depth)

abbrev pub decreases-audit_hashed : goal.decreases-audit_hashed
decreases-audit_hashed g l = 2 * (64 - l.depth)

abbrev pub decreases-audit_kept : goal.decreases-audit_kept
decreases-audit_kept g l = 2 * (64 - l.depth)

abbrev pub decreases-audit : goal.decreases-audit
decreases-audit g l = 2 * (64 - l.depth) + 1

abbrev pub decreases-audit_whole : goal.decreases-audit_whole
decreases-audit_whole g l = 2 * (64 - l.depth)

-- the highest element before the index is so high, and inside the containers around it
abbrev pub invariant-audit_list-loop-index : goal.invariant-audit_list-loop-index
invariant-audit_list-loop-index g l = record {
  high : AreHighBefore l.nodes.bytes.now l.nodes.pos l.nodes.len l.height l.index;
  low : l.inner + l.height ≤ 64;
  kept : AreHeights l.fn.list.bytes.now l.heights;
}

-- nodes are left, and the highest of the others is so high
abbrev pub invariant-audit_ordered-loop-node : goal.invariant-audit_ordered-loop-node
invariant-audit_ordered-loop-node g l = NodesLeft l.fn.map.bytes (at l.fn.map.pos map_shape) l.inner l.height l.node-iterator l.heights

-- nodes are left, and the highest of the others is so high
abbrev pub invariant-audit_hashed-loop-node : goal.invariant-audit_hashed-loop-node
invariant-audit_hashed-loop-node g l = NodesLeft l.fn.map.bytes (at l.fn.map.pos table_shape) l.inner l.height l.node-iterator l.heights

-- nodes are left, and the highest of the others is so high
abbrev pub invariant-audit_kept-loop-node : goal.invariant-audit_kept-loop-node
invariant-audit_kept-loop-node g l = NodesLeft l.fn.map.bytes (at l.fn.map.pos index_shape) l.inner l.height l.node-iterator l.heights
