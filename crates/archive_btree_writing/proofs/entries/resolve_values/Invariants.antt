use Rattle.std.proofs.Common.{refl}
use Rattle.archive_shape_canonical.specs.FirstFit.{first_fit}
use Rattle.archive_forms_laws.specs.Spelling.{state_after}
use Rattle.archive_btree_writing.specs.Nodes.{borrowed, borrowed_entry}
use Rattle.archive_btree_writing.proofs.Parts.{PartsLaid}
use Rattle.archive_btree_writing.proofs.entries.resolve_values.Given as goal

abbrev pub invariant-loop-i : goal.invariant-loop-i
invariant-loop-i g l =
    PartsLaid (borrowed_entry g.row.E g.K.Archived.Portable.shape g.A.Archived.Portable.shape g.K.Archive.spelling (g.A.ArchiveWith.spelling l.with)) (g.A.ArchiveWith.spelling l.with) g.A.Archived.Portable.shape (λ x. x.1.now) (λ x st. state_after (borrowed g.K.Archive.spelling) x.0 st) (λ q. q.1) (λ x st. refl)
    (λ x r pos fit. (g.met.A.ArchiveWith.spells l.with (first_fit (λ _. 0)) x).sized r pos fit) l.entries l.kept l.fn.buffer l.start l.pos l.i l.offset l.buffer
