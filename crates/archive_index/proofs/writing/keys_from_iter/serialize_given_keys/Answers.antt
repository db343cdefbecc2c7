use Rattle.std.proofs.Common.{◌∙◌, ap, map, subst}
use Rattle.std.specs.Iterator.{Drains}
use Rattle.archive_forms_laws.specs.Fields.{unit_spelling}
use Rattle.archive_hash.specs.Given.{entry_of, key_entry}
use Rattle.archive_index.specs.Sets.{unit_shape}
use Rattle.archive_shape_layout.specs.Writing.{WriterMembers}
use Rattle.archive_forms_values.specs.Tuples.{tuple2}
use Rattle.archive_forms_laws.specs.Taking.{GivesAs}
use Rattle.archive_forms_laws.specs.Fields.{tuple2_spelling}
use Rattle.archive_forms_writing.specs.Entries.{entry_spelling}
use Rattle.archive_hash_probing.specs.Inputs.{input_hash}
use Rattle.archive_hash.proofs.Given.{keys_came, pairs_written}
use Rattle.archive_hash_writing.specs.IndexResolvers.{written_map}
use Rattle.archive_index.proofs.Pairs.{pairs_said}
use Rattle.archive_index.proofs.writing.keys_from_iter.serialize_given_keys.Goals as goal

pub returns : goal.returns
returns g c =
    let s : WriterMembers g.row.S.Denot = record { known = g.S.Registry.known; pos = g.S.Positional.pos; OBSERVABLE = g.S.Writer.OBSERVABLE; COUNTS = g.S.Writer.COUNTS; contents = g.S.Writer.contents; failures = g.S.Writer.failures; last_error = g.S.Writer.last_error } in
    let k = g.K.Archived.Portable.shape in
    let keys = g.K.Archive.spelling in
    pairs_written c.args.load_factor (written_map c.args.load_factor (tuple2 k unit_shape) (entry_spelling k keys unit_shape unit_spelling)) (written_map c.args.load_factor (tuple2 k unit_shape) (tuple2_spelling k keys unit_shape unit_spelling)) (pairs_said c.args.load_factor k unit_shape keys unit_spelling) s
    _ (λ x. input_hash (g.K.Hash.hash_input x)) (λ e h says. says.says.met ∙ ap (λ x. input_hash (g.K.Hash.hash_input x.key.now)) says.shows) c.args.len c.args.serializer.now c.serialize_from_iter_scan_each.new.serializer c.serialize_from_iter_scan_each.result
    _ _ (λ es d. subst (λ from. Drains (GivesAs key_entry g.J.Iterator.next_gives) from (map entry_of es)) (ap (λ e. e.keys) d.1) (keys_came g.J.Iterator.next_gives (λ e. e.keys) d.0 es d.2)) c.serialize_from_iter_scan_each.ensures
