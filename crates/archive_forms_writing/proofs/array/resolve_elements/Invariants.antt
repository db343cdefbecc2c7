use Rattle.archive_forms_writing.proofs.Arrays.{Laid}
use Rattle.archive_forms_writing.proofs.array.resolve_elements.Given as goal

abbrev pub invariant-loop-i : goal.invariant-loop-i
invariant-loop-i g l = Laid g.T.Archived.Portable.shape g.T.Archive.spelling l.items l.kept l.fn.out l.start l.pos l.i l.offset l.out
