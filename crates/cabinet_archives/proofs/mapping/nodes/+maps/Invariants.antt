use Rattle.std.proofs.Common.{◌≡◌, ◌+◌, ◌*◌, ◌-◌}
use Rattle.archive_shape_layout.specs.Writing.{WriterMembers}
use Rattle.archive_shape_layout.specs.Shape.Shape.{text}
use Rattle.archive_hash_maps.specs.Tables.{Buckets, item_positions, IsTableAt}
use Rattle.archive_index.specs.Maps.{entry_positions}
use Rattle.cabinet_documents.specs.Node.{node_shape, pair_shape}
use Rattle.cabinet_archives.specs.Kept.{OfKept}
use Rattle.cabinet_archives.specs.MapPaths.{path_of}
use Rattle.cabinet_archives.specs.declared.mapping.region.RegionKind.TheVariants as kind
use Rattle.cabinet_archives.proofs.ElementsMapped.{ElementsToMap}
use Rattle.cabinet_archives.proofs.PairsMapped.{PairsToMap}
use Rattle.cabinet_archives.proofs.SubtreesMapped.{EntriesLeft, ChildrenLeft}
use Rattle.cabinet_archives.proofs.mapping.nodes.+maps.Given as goal

abbrev pub decreases-map_option : goal.decreases-map_option
decreases-map_option g l = 200 * (64 - l.outer) + 2

abbrev pub decreases-map_list : goal.decreases-map_list
decreases-map_list g l = 200 * (64 - l.outer) + 2

abbrev pub decreases-map_ordered : goal.decreases-map_ordered
decreases-map_ordered g l = 200 * (64 - l.outer) + 2

abbrev pub decreases-map_hashed : goal.decreases-map_hashed
decreases-map_hashed g l = 200 * (64 - l.outer) + 2

abbrev pub decreases-map_kept : goal.decreases-map_kept
decreases-map_kept g l = 200 * (64 - l.outer) + 2

abbrev pub decreases-map_whole : goal.decreases-map_whole
decreases-map_whole g l = 200 * (64 - l.outer) + 2

abbrev pub decreases-map_node : goal.decreases-map_node
decreases-map_node g l = 200 * (64 - l.outer) + 3

abbrev pub decreases-map_entry : goal.decreases-map_entry
decreases-map_entry g l = 200 * (64 - l.outer) + 4

abbrev pub decreases-map_tree_entries : goal.decreases-map_tree_entries
decreases-map_tree_entries g l = 200 * (64 - l.outer) + 5

-- a tree's nodes, by their levels
abbrev pub decreases-map_tree : goal.decreases-map_tree
decreases-map_tree g l = 200 * (64 - l.outer) + 4 * (33 - l.level) + 8

abbrev pub decreases-map_inner : goal.decreases-map_inner
decreases-map_inner g l = 200 * (64 - l.outer) + 4 * (33 - l.level) + 7

abbrev pub decreases-map_child : goal.decreases-map_child
decreases-map_child g l = 200 * (64 - l.outer) + 4 * (33 - l.level) + 10

-- what a writer says of itself
abbrev pub members : (g : goal.Over) → WriterMembers g.row.W.Denot
members g = record {
  known = g.W.Registry.known;
  pos = g.W.Positional.pos;
  OBSERVABLE = g.W.Writer.OBSERVABLE;
  COUNTS = g.W.Writer.COUNTS;
  contents = g.W.Writer.contents;
  failures = g.W.Writer.failures;
  last_error = g.W.Writer.last_error;
}

-- the elements before the index are written
abbrev pub invariant-map_list-loop-index : goal.invariant-map_list-loop-index
invariant-map_list-loop-index g l = record {
  left : ElementsToMap (members g) l.fn.list.bytes.now (path_of l.fn.path) l.nodes.pos l.nodes.len l.index l.fn.tally l.tally l.fn.writer l.writer;
  quiet : g.W.Writer.failures l.writer ≡ g.W.Writer.failures l.fn.writer;
}

-- pairs are left, and the others are written
abbrev pub invariant-map_hashed-loop-key : goal.invariant-map_hashed-loop-key
invariant-map_hashed-loop-key g l =
    (b : Buckets) → IsTableAt l.fn.map.bytes.now pair_shape l.fn.map.pos b
    → PairsToMap (members g) l.fn.map.bytes (l.fn.outer + 1) kind.Table (path_of l.fn.path) (item_positions pair_shape b) l.key-iterator l.initial.tally l.tally l.initial.writer l.writer

-- entries are left, and the others are written
abbrev pub invariant-map_kept-loop-key : goal.invariant-map_kept-loop-key
invariant-map_kept-loop-key g l =
    OfKept l.fn.map.bytes.now l.fn.map.pos (λ m.
    PairsToMap (members g) l.fn.map.bytes (l.fn.outer + 1) kind.Entries (path_of l.fn.path) (entry_positions text node_shape m) l.key-iterator l.initial.tally l.tally l.initial.writer l.writer)

-- the entries before the index are written
abbrev pub invariant-map_tree_entries-loop-index : goal.invariant-map_tree_entries-loop-index
invariant-map_tree_entries-loop-index g l = record {
  left : EntriesLeft (members g) l.fn.bytes (path_of l.fn.path) l.fn.pos l.fn.count l.index l.fn.tally l.tally l.fn.writer l.writer;
  quiet : g.W.Writer.failures l.writer ≡ g.W.Writer.failures l.fn.writer;
}

-- the children before the index are written
abbrev pub invariant-map_inner-loop-index : goal.invariant-map_inner-loop-index
invariant-map_inner-loop-index g l = record {
  left : ChildrenLeft (members g) l.fn.bytes (path_of l.fn.path) l.fn.pos l.fn.level l.index l.fn.tally l.tally l.fn.writer l.writer;
  quiet : g.W.Writer.failures l.writer ≡ g.W.Writer.failures l.fn.writer;
}
