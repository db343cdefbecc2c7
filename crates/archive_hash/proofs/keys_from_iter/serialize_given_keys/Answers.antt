use Rattle.std.proofs.Common.{◌∙◌, ap, map, subst}
use Rattle.std.specs.Iterator.{Drains}
use Rattle.archive_shape_layout.specs.Shape.Shape.{tuple}
use Rattle.archive_shape_layout.specs.Shape.Shapes.{no_shapes}
use Rattle.archive_shape_layout.specs.Writing.{WriterMembers}
use Rattle.archive_forms_laws.specs.Fields.{unit_spelling}
use Rattle.archive_forms_laws.specs.Taking.{GivesAs}
use Rattle.archive_hash_probing.specs.Inputs.{input_hash}
use Rattle.archive_hash.specs.Given.{entry_of, key_entry}
use Rattle.archive_hash.proofs.Given.{keys_came, entries_written}
use Rattle.archive_hash.proofs.keys_from_iter.serialize_given_keys.Goals as goal

pub returns : goal.returns
returns g c =
    let s : WriterMembers g.row.S.Denot = record { known = g.S.Registry.known; pos = g.S.Positional.pos; OBSERVABLE = g.S.Writer.OBSERVABLE; COUNTS = g.S.Writer.COUNTS; contents = g.S.Writer.contents; failures = g.S.Writer.failures; last_error = g.S.Writer.last_error } in
    entries_written c.args.load_factor g.K.Archived.Portable.shape (tuple no_shapes) g.K.Archive.spelling unit_spelling s _ (λ k. input_hash (g.K.Hash.hash_input k)) (λ e h says. says.says.met ∙ ap (λ x. input_hash (g.K.Hash.hash_input x.key.now)) says.shows) c.args.len c.args.serializer.now c.serialize_from_iter_scan_each.new.serializer c.serialize_from_iter_scan_each.result
    _ _ (λ es d. subst (λ from. Drains (GivesAs key_entry g.J.Iterator.next_gives) from (map entry_of es)) (ap (λ e. e.keys) d.1) (keys_came g.J.Iterator.next_gives (λ e. e.keys) d.0 es d.2)) c.serialize_from_iter_scan_each.ensures
