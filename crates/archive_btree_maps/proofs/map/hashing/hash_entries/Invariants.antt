use Rattle.archive_btree_maps.proofs.Fed.{AreToHash}
use Rattle.archive_btree_maps.proofs.map.hashing.hash_entries.Given as goal

abbrev pub invariant-loop-key : goal.invariant-loop-key
invariant-loop-key g l = record {
  -- the entries that are left are to be hashed
  rest :
      AreToHash g.K.Portable.shape g.V.Portable.shape g.K.Portable.knows g.V.Portable.knows g.H.Hasher.write g.K.ArchivedHash.hashed g.V.ArchivedHash.hashed
      l.fn.state l.state l.fn.entries l.key-iterator;
}
