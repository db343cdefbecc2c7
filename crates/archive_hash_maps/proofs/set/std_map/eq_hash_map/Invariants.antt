use Rattle.std.proofs.Common.{true, All, Contains}
use Rattle.archive_forms_values.specs.Tuples.{tuple2}
use Rattle.archive_hash_maps.specs.Tables.{Buckets, IsTableAt}
use Rattle.archive_hash_maps.specs.Maps.{HashesTo}
use Rattle.archive_hash_maps.specs.StdMaps.{LeadsTo}
use Rattle.archive_hash_maps.proofs.set.std_map.eq_hash_map.Given as goal

-- the pairs that are left decide, and are among the pairs
abbrev pub invariant-loop-key : goal.invariant-loop-key
invariant-loop-key g l = record {
  decide :
      (b : Buckets) → IsTableAt l.fn.this.bytes.now (tuple2 g.K.Portable.shape g.V.Portable.shape) l.fn.this.pos b
      → All (λ e. LeadsTo g.K.ArchivedKey.key_of g.K.ArchivedKey.order g.V.ArchivedKey.key_of g.V.ArchivedKey.order (λ q. HashesTo g.H.Default.is_default g.H.Hasher.write g.H.Hasher.finish (g.Q.Hash.hash_input q)) l.fn.this.bytes.now g.K.Portable.shape g.V.Portable.shape b e true) l.key-iterator
      → All (λ e. LeadsTo g.K.ArchivedKey.key_of g.K.ArchivedKey.order g.V.ArchivedKey.key_of g.V.ArchivedKey.order (λ q. HashesTo g.H.Default.is_default g.H.Hasher.write g.H.Hasher.finish (g.Q.Hash.hash_input q)) l.fn.this.bytes.now g.K.Portable.shape g.V.Portable.shape b e true) l.fn.other.entries;
  among : (e : _) → Contains l.key-iterator e → Contains l.fn.other.entries e;
}
