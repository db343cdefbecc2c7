use Rattle.std.proofs.Common.{◌∙◌, ap, map, subst}
use Rattle.std.specs.Iterator.{Drains}
use Rattle.std.specs.Map.Iter.{deref_pair}
use Rattle.archive_hash.specs.Given.{entry_of}
use Rattle.archive_shape_layout.specs.Writing.{WriterMembers}
use Rattle.archive_forms_values.specs.Tuples.{tuple2}
use Rattle.archive_forms_laws.specs.Taking.{GivesAs}
use Rattle.archive_forms_laws.specs.Fields.{tuple2_spelling}
use Rattle.archive_forms_writing.specs.Entries.{entry_spelling}
use Rattle.archive_hash_probing.specs.Inputs.{input_hash}
use Rattle.archive_hash.proofs.Given.{entries_came, pairs_written}
use Rattle.archive_hash_writing.specs.IndexResolvers.{written_map}
use Rattle.archive_index.proofs.Pairs.{pairs_said}
use Rattle.archive_index.proofs.writing.from_iter.serialize_given_pairs.Goals as goal

pub returns : goal.returns
returns g c =
    let s : WriterMembers g.row.S.Denot = record { known = g.S.Registry.known; pos = g.S.Positional.pos; OBSERVABLE = g.S.Writer.OBSERVABLE; COUNTS = g.S.Writer.COUNTS; contents = g.S.Writer.contents; failures = g.S.Writer.failures; last_error = g.S.Writer.last_error } in
    let k = g.K.Archived.Portable.shape in
    let keys = g.K.Archive.spelling in
    pairs_written c.args.load_factor (written_map c.args.load_factor (tuple2 k g.V.Archived.Portable.shape) (entry_spelling k keys g.V.Archived.Portable.shape g.V.Archive.spelling)) (written_map c.args.load_factor (tuple2 k g.V.Archived.Portable.shape) (tuple2_spelling k keys g.V.Archived.Portable.shape g.V.Archive.spelling)) (pairs_said c.args.load_factor k g.V.Archived.Portable.shape keys g.V.Archive.spelling) s
    _ (λ x. input_hash (g.K.Hash.hash_input x)) (λ e h says. says.says.met ∙ ap (λ x. input_hash (g.K.Hash.hash_input x.key.now)) says.shows) c.args.len c.args.serializer.now c.serialize_from_iter_scan_each.new.serializer c.serialize_from_iter_scan_each.result
    _ _ (λ es d. subst (λ from. Drains (GivesAs deref_pair g.J.Iterator.next_gives) from (map entry_of es)) (ap (λ e. e.pairs) d.1) (entries_came g.J.Iterator.next_gives (λ e. e.pairs) d.0 es d.2)) c.serialize_from_iter_scan_each.ensures
