use Rattle.std.proofs.Common.{◌≡◌, ◌≤◌, length, take}
use Rattle.archive_forms_laws.specs.State.{State}
use Rattle.archive_forms_laws.specs.Serializing.{IsAt}
use Rattle.archive_forms_writing.proofs.Loops.{Reached}
use Rattle.archive_btree_writing.specs.Nodes.{borrowed_entry}
use Rattle.archive_btree_writing.proofs.laying.write_node_each.Given as goal

abbrev pub invariant-loop-i : goal.invariant-loop-i
invariant-loop-i g l = record {
  whole : length l.kept ≡ g.row.E;
  within : l.i ≤ length l.entries;
  -- from each state that the serializer may have been in
  reached :
      (st : State) → IsAt g.S.Positional.pos g.S.Registry.known l.fn.serializer st
      → Reached (borrowed_entry g.row.E g.K.Archived.Portable.shape g.A.Archived.Portable.shape g.K.Archive.spelling (g.A.ArchiveWith.spelling l.with))
      (record { known = g.S.Registry.known; pos = g.S.Positional.pos; OBSERVABLE = g.S.Writer.OBSERVABLE; COUNTS = g.S.Writer.COUNTS; contents = g.S.Writer.contents; failures = g.S.Writer.failures; last_error = g.S.Writer.last_error }) l.entries l.fn.serializer st l.i l.serializer (take l.i l.kept);
}
