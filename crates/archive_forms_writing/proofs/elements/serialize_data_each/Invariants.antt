use Rattle.std.proofs.Common.{◌≡◌}
use Rattle.archive_forms_laws.specs.State.{State}
use Rattle.archive_forms_laws.specs.Serializing.{IsAt}
use Rattle.archive_forms_writing.proofs.Loops.{Reached}
use Rattle.archive_forms_writing.proofs.elements.serialize_data_each.Given as goal

abbrev pub invariant-loop-item : goal.invariant-loop-item
invariant-loop-item g l = record {
  alike : l.items ≡ l.fn.items;
  -- from each state that the serializer may have been in
  reached :
      (st : State) → IsAt g.S.Positional.pos g.S.Registry.known l.fn.serializer st
      → Reached (g.A.ArchiveWith.spelling l.with) (record { known = g.S.Registry.known; pos = g.S.Positional.pos; OBSERVABLE = g.S.Writer.OBSERVABLE; COUNTS = g.S.Writer.COUNTS; contents = g.S.Writer.contents; failures = g.S.Writer.failures; last_error = g.S.Writer.last_error }) l.items l.fn.serializer st l.item-index l.serializer l.all.items;
}
