use Rattle.std.proofs.Common.{arith, rules}
use Rattle.archive_shape_layout.specs.Bytes.{align_up}
use Rattle.archive_shape.proofs.PointerLemmas.{follows, length_in_own_bytes}
use Rattle.archive_shape.proofs.pointers.rel_pointer.RelPtr.metadata.Goals as goal

pub returns-clause-own : goal.returns-clause-own
returns-clause-own g c =
    let T = g.T.ArchivedMetadata.Portable in
    λ four. length_in_own_bytes
    g.T.ArchivePointee.pointee
    c.args.this.bytes.now
    c.args.this.pos
    (align_up g.O.Portable.SIZE T.ALIGN)
    T.SIZE
    c.pointer_metadata.result
    (rw four (follows T.ALIGN g.met.T.ArchivePointee.metadata_follows))
    g.met.T.ArchivePointee.metadata_ends
    (omega arith)
    (search rules)
