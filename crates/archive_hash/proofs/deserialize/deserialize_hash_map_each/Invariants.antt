use Rattle.std.proofs.Common.{◌≡◌, ℕ, List, map, length}
use Rattle.archive_hash_maps.specs.Maps.{entry_at}
use Rattle.archive_hash.proofs.Items.{IsReading}
use Rattle.archive_hash.proofs.deserialize.deserialize_hash_map_each.Given as goal

-- the entries that are left are at positions of the table
abbrev pub invariant-loop-key : goal.invariant-loop-key
invariant-loop-key g l = (left : List ℕ) × (l.entries ≡ map (entry_at l.fn.this.bytes g.A.Portable.shape g.B.Portable.shape) left)
    × IsReading g.A.ReadBack.reads g.B.ReadBack.reads g.A.Portable.shape g.B.Portable.shape g.A.Portable.knows g.B.Portable.knows l.fn.this.bytes.now g.K.PartialEq.eq l.fn.this.pos left l.map.entries
    × g.D.Deserializer.is_of l.deserializer l.fn.this.bytes.now

abbrev pub decreases-loop-key : goal.decreases-loop-key
decreases-loop-key g l = length l.entries
