use Rattle.std.proofs.Common.{◌≡◌, ◌++◌, map}
use Rattle.archive_shape_layout.specs.Shape.Shape.{text}
use Rattle.archive_btree_layout.specs.Reading.{Place}
use Rattle.archive_btree_layout.specs.Tree.{Tree as SearchTree, items}
use Rattle.archive_btree_maps.specs.Maps.{IsMapAt}
use Rattle.cabinet_documents.specs.Node.{node_shape}
use Rattle.cabinet_archives.proofs.LoadedEntries.{positions}
use Rattle.cabinet_archives.proofs.LoadedMaps.{entries_at}
use Rattle.cabinet_archives.proofs.loading.entries.ordered_entries.Given as goal

-- the entries, and behind them those that are left, are all
abbrev pub invariant-loop-key : goal.invariant-loop-key
invariant-loop-key l = (t : SearchTree Place) → IsMapAt l.map.bytes.now 5 text node_shape l.map.pos t → l.entries.items ++ map positions l.key-iterator ≡ map positions (entries_at l.map.bytes (items t))
