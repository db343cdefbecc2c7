use Rattle.std.proofs.Common.{◌≡◌, ◌+◌, ◌<◌, ◌≤◌, ◌^◌, length}
use Rattle.archive_forms_writing.proofs.Batches.{Filling}
use Rattle.archive_forms_writing.proofs.buffered.resolve_through.Given as goal

abbrev pub invariant-loop-i : goal.invariant-loop-i
invariant-loop-i g l = record {
  same : length l.buffer ≡ length l.fn.buffer;
  stands : l.base ≡ g.W.Positional.pos l.writer;
  within : l.filled ≤ l.room;
  roomy : l.room ≤ length l.fn.buffer;
  ends : l.base + l.room < 2 ^ 64;
  filling : Filling (g.A.ArchiveWith.spelling l.with) g.A.Archived.Portable.shape (record { known = g.W.Registry.known; pos = g.W.Positional.pos; OBSERVABLE = g.W.Writer.OBSERVABLE; COUNTS = g.W.Writer.COUNTS; contents = g.W.Writer.contents; failures = g.W.Writer.failures; last_error = g.W.Writer.last_error }) l.items l.kept l.fn.writer l.i l.writer l.filled l.buffer;
}
