use Rattle.std.proofs.Common.{◌≡◌, drop}
use Rattle.std.specs.List.{fold, flat_map}
use Rattle.archive_shape_layout.specs.Value.{Value}
use Rattle.archive_forms_laws.specs.Views.{elements_of}
use Rattle.archive_forms_laws.specs.Orders.{vector_hashed}
use Rattle.archive_forms_values.specs.Parts.{AreElements}
use Rattle.archive_forms_comparing.proofs.hashing.vector.hash_elements.Given as goal

abbrev pub invariant-loop-index : goal.invariant-loop-index
invariant-loop-index g l = record {
  -- the elements from the index on are left to be written
  rest :
      (v : Value)
      → AreElements g.T.Portable.shape g.T.Portable.knows l.fn.elements.bytes.now l.fn.elements.pos l.fn.elements.len v
      → fold g.H.Hasher.write l.state (flat_map g.T.ArchivedHash.hashed (drop l.index (elements_of v))) ≡ fold g.H.Hasher.write l.fn.state (vector_hashed g.T.ArchivedHash.hashed v);
}
