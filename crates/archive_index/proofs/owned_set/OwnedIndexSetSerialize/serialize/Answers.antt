use Rattle.std.proofs.Common.{◌≡◌, ◌∙◌, length, sym, arith}
use Rattle.std.proofs.lemmas.List.{length-map}
use Rattle.archive_shape_layout.specs.Writing.{WriterMembers}
use Rattle.archive_forms_values.specs.Tuples.{tuple2}
use Rattle.archive_forms_laws.specs.Fields.{tuple2_spelling, unit_spelling}
use Rattle.archive_hash_probing.specs.Inputs.{input_hash}
use Rattle.archive_hash_writing.specs.IndexResolvers.{written_map}
use Rattle.archive_hash.specs.Owned.{key_entries}
use Rattle.archive_hash.proofs.Whole.{all_written}
use Rattle.archive_index.specs.Sets.{unit_shape}
use Rattle.archive_index.proofs.Drained.{keys_drained}
use Rattle.archive_index.proofs.owned_set.OwnedIndexSetSerialize.serialize.Goals as goal

pub returns : goal.returns
returns g c =
    let s : WriterMembers g.row.S.Denot = record { known = g.S.Registry.known; pos = g.S.Positional.pos; OBSERVABLE = g.S.Writer.OBSERVABLE; COUNTS = g.S.Writer.COUNTS; contents = g.S.Writer.contents; failures = g.S.Writer.failures; last_error = g.S.Writer.last_error } in
    let k = g.K.Archived.Portable.shape in
    let keys = c.args.self.now.keys in
    let len : c.len.result ≡ length keys.items = omega (arith, c.len.ensures, keys.ok) in
    all_written (written_map (7, 8) (tuple2 k unit_shape) (tuple2_spelling k g.K.Archive.spelling unit_shape unit_spelling)) (λ e. input_hash (g.K.Hash.hash_input e.0)) s (key_entries keys.items)
    c.args.serializer.now c.serialize_given_keys.new.serializer c.serialize_given_keys.result
    _ c.len.result (λ es d. keys_drained keys.items c.iter.result (c.iter.ensures.rest ∙ c.deref.ensures.value) es d) (len ∙ sym (length-map keys.items (λ k. (k, tt)))) c.serialize_given_keys.ensures
