use Rattle.std.proofs.Common.{◌≡◌, length}
use Rattle.archive_forms.specs.Deserializing.{AreReadFrom}
use Rattle.archive_forms.proofs.deserializing.elements.deserialize_elements_each.Given as goal

abbrev pub invariant-loop-index : goal.invariant-loop-index
invariant-loop-index g l = record {
  count : length l.all.items ≡ l.index;
  -- those that were read are the first elements
  read : AreReadFrom g.A.ReadBack.reads g.A.Portable.shape g.A.Portable.knows l.fn.items.bytes.now l.fn.items.pos l.all.items;
  kept : g.D.Deserializer.is_of l.deserializer l.fn.items.bytes.now;
}
