use Rattle.std.proofs.Common.{◌≡◌, ◌*◌, length}
use Rattle.archive_shape_layout.specs.Shape.{size_of}
use Rattle.archive_forms_writing.proofs.Batches.{Filling, unwritten}
use Rattle.archive_forms_writing.proofs.buffered.resolve_all.Given as goal

abbrev pub invariant-loop-i : goal.invariant-loop-i
invariant-loop-i g l = record {
  same : length l.buffer ≡ length l.fn.buffer;
  counted : l.filled ≡ l.i * size_of g.A.Archived.Portable.shape;
  filling : Filling (g.A.ArchiveWith.spelling l.with) g.A.Archived.Portable.shape unwritten l.items l.kept l.pos l.i l.pos l.filled l.buffer;
}
