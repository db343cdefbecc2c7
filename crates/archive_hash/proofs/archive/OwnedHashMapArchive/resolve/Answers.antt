use Rattle.std.proofs.Common.{rules}
use Rattle.archive_shape_layout.specs.Shape.Shape.{table}
use Rattle.archive_forms_values.specs.Tuples.{tuple2}
use Rattle.archive_hash_probing.specs.Inputs.{input_hash}
use Rattle.archive_hash.proofs.Resolved.{entries_resolve}
use Rattle.archive_hash.proofs.archive.OwnedHashMapArchive.resolve.Goals as goal

pub returns : goal.returns
returns g c =
    entries_resolve (λ k. input_hash (g.K.Hash.hash_input k)) g.K.Archived.Portable.shape g.V.Archived.Portable.shape (table (tuple2 g.K.Archived.Portable.shape g.V.Archived.Portable.shape)) g.K.Archive.spelling g.V.Archive.spelling c.args.self.now.map.entries c.args.resolver c.len.result _ _ _ _ _ _ _ _ c.resolve_from_len.result
    c.len.ensures.len c.within.ensures.pos c.within.ensures.start c.within.ensures.bytes c.resolve_from_len.ensures (search rules)
