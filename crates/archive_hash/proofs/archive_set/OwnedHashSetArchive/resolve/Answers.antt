use Rattle.std.proofs.Common.{rules, ◌∙◌, sym}
use Rattle.std.proofs.lemmas.List.{length-map}
use Rattle.archive_shape_layout.specs.Shape.Shape.{tuple, table}
use Rattle.archive_forms_values.specs.Tuples.{tuple2}
use Rattle.archive_shape_layout.specs.Shape.Shapes.{no_shapes}
use Rattle.archive_forms_laws.specs.Fields.{unit_spelling}
use Rattle.archive_hash_probing.specs.Inputs.{input_hash}
use Rattle.archive_hash.specs.Owned.{key_entries}
use Rattle.archive_hash.proofs.Resolved.{entries_resolve}
use Rattle.archive_hash.proofs.archive_set.OwnedHashSetArchive.resolve.Goals as goal

pub returns : goal.returns
returns g c =
    let keys = c.args.self.now.set.keys in
    entries_resolve (λ k. input_hash (g.K.Hash.hash_input k)) g.K.Archived.Portable.shape (tuple no_shapes) (table (tuple2 g.K.Archived.Portable.shape (tuple no_shapes))) g.K.Archive.spelling unit_spelling (key_entries keys) c.args.resolver c.len.result _ _ _ _ _ _ _ _ c.resolve_from_len.result
    (c.len.ensures.len ∙ sym (length-map keys (λ k. (k, record {})))) c.within.ensures.pos c.within.ensures.start c.within.ensures.bytes c.resolve_from_len.ensures (search rules)
