use Rattle.std.proofs.Common.{◌≡◌, length, map}
use Rattle.archive_hash_writing.specs.Standing.{standing}
use Rattle.archive_hash_writing.proofs.Filling.{Filling}
use Rattle.archive_hash_writing.proofs.buckets.write_through.Given as goal

abbrev pub invariant-loop-p : goal.invariant-loop-p
invariant-loop-p g l = record {
  same : length l.buffer ≡ length l.fn.buffer;
  filling : Filling (g.A.ArchiveWith.spelling l.with) g.A.Archived.Portable.shape (record { known = g.W.Registry.known; pos = g.W.Positional.pos; OBSERVABLE = g.W.Writer.OBSERVABLE; COUNTS = g.W.Writer.COUNTS; contents = g.W.Writer.contents; failures = g.W.Writer.failures; last_error = g.W.Writer.last_error }) (map standing l.table) l.kept l.fn.writer l.p l.left l.writer l.filled l.buffer;
}
