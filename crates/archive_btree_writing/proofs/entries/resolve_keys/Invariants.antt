use Rattle.std.proofs.Common.{refl}
use Rattle.archive_shape_canonical.specs.FirstFit.{first_fit}
use Rattle.archive_btree_writing.specs.Nodes.{borrowed_entry}
use Rattle.archive_btree_writing.proofs.Parts.{PartsLaid}
use Rattle.archive_btree_writing.proofs.entries.resolve_keys.Given as goal

abbrev pub invariant-loop-i : goal.invariant-loop-i
invariant-loop-i g l =
    (with : g.row.A.Denot)
    → PartsLaid (borrowed_entry g.row.E g.K.Archived.Portable.shape g.A.Archived.Portable.shape g.K.Archive.spelling (g.A.ArchiveWith.spelling with)) g.K.Archive.spelling g.K.Archived.Portable.shape (λ x. x.0.now) (λ x st. st) (λ q. q.0) (λ x st. refl)
    (λ x r pos fit. (g.met.K.Archive.spells (first_fit (λ _. 0)) x).sized r pos fit) l.entries l.kept l.fn.buffer l.start l.pos l.i l.offset l.buffer
