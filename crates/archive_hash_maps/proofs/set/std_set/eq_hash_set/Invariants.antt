use Rattle.std.proofs.Common.{true, All, Contains}
use Rattle.archive_hash_maps.specs.Tables.{Buckets}
use Rattle.archive_hash_maps.specs.Maps.{HashesTo}
use Rattle.archive_hash_maps.specs.Sets.{IsSetAt}
use Rattle.archive_hash_maps.specs.StdMaps.{IsSaid}
use Rattle.archive_hash_maps.proofs.set.std_set.eq_hash_set.Given as goal

-- the keys that are left decide, and are among the keys
abbrev pub invariant-loop-key : goal.invariant-loop-key
invariant-loop-key g l = record {
  decide :
      (b : Buckets) → IsSetAt l.fn.this.bytes.now g.K.Portable.shape l.fn.this.pos b
      → All (λ q. IsSaid g.K.ArchivedKey.key_of g.K.ArchivedKey.order (λ x. HashesTo g.H.Default.is_default g.H.Hasher.write g.H.Hasher.finish (g.Q.Hash.hash_input x)) l.fn.this.bytes.now g.K.Portable.shape b q true) l.key-iterator
      → All (λ q. IsSaid g.K.ArchivedKey.key_of g.K.ArchivedKey.order (λ x. HashesTo g.H.Default.is_default g.H.Hasher.write g.H.Hasher.finish (g.Q.Hash.hash_input x)) l.fn.this.bytes.now g.K.Portable.shape b q true) l.fn.other.keys;
  among : (q : _) → Contains l.key-iterator q → Contains l.fn.other.keys q;
}
