use Rattle.std.proofs.Common.{◌≡◌, drop}
use Rattle.std.specs.Cmp.Lexicographic.{slice_cmp}
use Rattle.archive_shape_layout.specs.Value.{Value}
use Rattle.archive_forms_laws.specs.Views.{elements_of}
use Rattle.archive_forms_values.specs.Parts.{AreElements}
use Rattle.archive_forms_comparing.proofs.vector.compare_elements.Given as goal

abbrev pub invariant-loop-index : goal.invariant-loop-index
invariant-loop-index g l = record {
  -- the elements from the index on decide
  rest :
      (v w : Value)
      → AreElements g.T.Portable.shape g.T.Portable.knows l.fn.these.bytes.now l.fn.these.pos l.fn.these.len v
      → AreElements g.T.Portable.shape g.T.Portable.knows l.fn.others.bytes.now l.fn.others.pos l.fn.others.len w
      → slice_cmp g.T.ArchivedOrd.order (elements_of v) (elements_of w) ≡ slice_cmp g.T.ArchivedOrd.order (drop l.index (elements_of v)) (drop l.index (elements_of w));
}
