use Rattle.std.proofs.Common.{◌≡◌}
use Rattle.archive_hash_writing.proofs.Presented.{Presented}
use Rattle.archive_hash_writing.proofs.data.serialize_present_each.Given as goal

abbrev pub invariant-loop-place : goal.invariant-loop-place
invariant-loop-place g l = record {
  alike : l.table ≡ l.fn.table;
  presented : Presented (g.A.ArchiveWith.spelling l.with) (record { known = g.S.Registry.known; pos = g.S.Positional.pos; OBSERVABLE = g.S.Writer.OBSERVABLE; COUNTS = g.S.Writer.COUNTS; contents = g.S.Writer.contents; failures = g.S.Writer.failures; last_error = g.S.Writer.last_error }) l.table l.fn.serializer l.place-index l.serializer l.all.items;
}
