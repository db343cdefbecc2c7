use Rattle.std.proofs.Common.{true, map, All, Contains}
use Rattle.archive_forms_values.specs.Tuples.{tuple2}
use Rattle.archive_forms_values.specs.Parts.{HasValue}
use Rattle.archive_shape.specs.declared.references.refs.Ref.{Ref}
use Rattle.archive_hash_maps.specs.Tables.{Buckets, IsTableAt, item_positions}
use Rattle.archive_hash_maps.specs.Maps.{entry_at}
use Rattle.archive_hash_maps.specs.Equal.{KeyHashesTo, HasEqual}
use Rattle.archive_hash_maps.proofs.map.map.ArchivedHashMap.equals.Given as goal

-- the entries that are left are there, decide, and are among the entries
abbrev pub invariant-loop-entry : goal.invariant-loop-entry
invariant-loop-entry g l = record {
  there : All (λ e. HasValue g.K.Portable.shape g.K.Portable.knows e.0.bytes.now e.0.pos × HasValue g.V.Portable.shape g.V.Portable.knows e.1.bytes.now e.1.pos) l.entry-iterator;
  decide :
      (b x : Buckets) → IsTableAt l.fn.this.bytes.now (tuple2 g.K.Portable.shape g.V.Portable.shape) l.fn.this.pos b
      → IsTableAt l.fn.other.bytes.now (tuple2 g.K.Portable.shape g.V.Portable.shape) l.fn.other.pos x
      → All (λ (e : Ref g.row.K.Denot × Ref g.row.V.Denot). HasEqual (KeyHashesTo {K = g.row.K.Denot} g.H.Default.is_default g.H.Hasher.write g.H.Hasher.finish g.K.Portable.shape g.K.Portable.knows g.K.ArchivedHash.hashed) g.K.Portable.shape g.V.Portable.shape g.K.Portable.knows g.V.Portable.knows g.K.ArchivedEq.equal g.V.ArchivedEq.equal l.fn.other.bytes.now x e true) l.entry-iterator
      → All (λ (e : Ref g.row.K.Denot × Ref g.row.V.Denot). HasEqual (KeyHashesTo {K = g.row.K.Denot} g.H.Default.is_default g.H.Hasher.write g.H.Hasher.finish g.K.Portable.shape g.K.Portable.knows g.K.ArchivedHash.hashed) g.K.Portable.shape g.V.Portable.shape g.K.Portable.knows g.V.Portable.knows g.K.ArchivedEq.equal g.V.ArchivedEq.equal l.fn.other.bytes.now x e true) (map (entry_at l.fn.this.bytes g.K.Portable.shape g.V.Portable.shape) (item_positions (tuple2 g.K.Portable.shape g.V.Portable.shape) b));
  among :
      (b : Buckets) → IsTableAt l.fn.this.bytes.now (tuple2 g.K.Portable.shape g.V.Portable.shape) l.fn.this.pos b
      → (e : Ref g.row.K.Denot × Ref g.row.V.Denot) → Contains l.entry-iterator e
      → Contains (map (entry_at l.fn.this.bytes g.K.Portable.shape g.V.Portable.shape) (item_positions (tuple2 g.K.Portable.shape g.V.Portable.shape) b)) e;
}
