use Rattle.std.proofs.Common.{◌≡◌, List, map, length}
use Rattle.archive_btree_layout.specs.Reading.{Place}
use Rattle.archive_btree_maps.specs.Refs.{entry_at}
use Rattle.archive_btree.proofs.ReadBack.{IsReading}
use Rattle.archive_btree.proofs.deserialize.deserialize_map_each.Given as goal

-- the entries that are left lie at places of the map
abbrev pub invariant-loop-key : goal.invariant-loop-key
invariant-loop-key g l = (left : List Place) × (l.entries ≡ map (entry_at l.fn.this.bytes) left)
    × IsReading g.row.E g.A.ReadBack.reads g.B.ReadBack.reads g.A.Portable.shape g.B.Portable.shape g.A.Portable.knows g.B.Portable.knows l.fn.this.bytes.now g.K.Ord.cmp l.fn.this.pos left l.map.entries
    × g.D.Deserializer.is_of l.deserializer l.fn.this.bytes.now

abbrev pub decreases-loop-key : goal.decreases-loop-key
decreases-loop-key g l = length l.entries
