use Rattle.std.proofs.Common.{List, subst}
use Rattle.archive_shape_layout.specs.Writing.{WriterMembers}
use Rattle.archive_forms_laws.specs.Serializing.{Serializes}
use Rattle.archive_hash_probing.specs.Inputs.{input_hash}
use Rattle.archive_hash_writing.specs.IndexResolvers.{pairs_spelling}
use Rattle.archive_index.proofs.owned.OwnedIndexMapSerialize.serialize.Goals as goal

pub returns : goal.returns
returns g c =
    let s : WriterMembers g.row.S.Denot = record { known = g.S.Registry.known; pos = g.S.Positional.pos; OBSERVABLE = g.S.Writer.OBSERVABLE; COUNTS = g.S.Writer.COUNTS; contents = g.S.Writer.contents; failures = g.S.Writer.failures; last_error = g.S.Writer.last_error } in
    let spelled = pairs_spelling (λ x. input_hash (g.K.Hash.hash_input x)) g.K.Archived.Portable.shape g.V.Archived.Portable.shape g.K.Archive.spelling g.V.Archive.spelling in
    let P : List (g.row.K.Denot × g.row.V.Denot) → Type 0 = λ l. Serializes spelled s l c.args.serializer.now c.serialize_pairs_each.new.serializer c.serialize_pairs_each.result in
    subst P c.as_slice.ensures.value c.serialize_pairs_each.ensures
