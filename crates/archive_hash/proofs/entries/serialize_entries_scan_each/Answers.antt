use Rattle.std.proofs.Common.{◌∙◌, ap, map, subst}
use Rattle.std.specs.Iterator.{Drains}
use Rattle.std.specs.Map.Iter.{deref_pair}
use Rattle.archive_shape_layout.specs.Writing.{WriterMembers}
use Rattle.archive_forms_laws.specs.Taking.{GivesAs}
use Rattle.archive_hash_probing.specs.Inputs.{input_hash}
use Rattle.archive_hash.specs.Given.{entry_of}
use Rattle.archive_hash.proofs.Given.{entries_came, element_taken, entries_written}
use Rattle.archive_hash.proofs.entries.serialize_entries_scan_each.Goals as goal

pub serialize_from_iter_scan_with_each-requires-clause-takes : goal.serialize_from_iter_scan_with_each-requires-clause-takes
serialize_from_iter_scan_with_each-requires-clause-takes g c = λ it es is d x to el room state.
    let all = c.requires.takes.each (map entry_of es) (subst (λ from. Drains (GivesAs deref_pair g.I.Iterator.next_gives) from (map entry_of es)) (ap (λ e. e.pairs) is) (entries_came g.I.Iterator.next_gives (λ e. e.pairs) it es d)) in
    (element_taken (g.C.EntryStep.takes c.args.step.now c.args.with.now) es x.now all el, (room, state))

pub returns : goal.returns
returns g c =
    let s : WriterMembers g.row.S.Denot = record { known = g.S.Registry.known; pos = g.S.Positional.pos; OBSERVABLE = g.S.Writer.OBSERVABLE; COUNTS = g.S.Writer.COUNTS; contents = g.S.Writer.contents; failures = g.S.Writer.failures; last_error = g.S.Writer.last_error } in
    entries_written c.args.load_factor g.K.Archived.Portable.shape g.A.Archived.Portable.shape g.K.Archive.spelling (g.A.ArchiveWith.spelling c.args.with.now) s _ (λ k. input_hash (g.K.Hash.hash_input k)) (λ e h says. says.says.met ∙ ap (λ x. input_hash (g.K.Hash.hash_input x.key.now)) says.shows) c.args.len c.args.serializer.now c.serialize_from_iter_scan_with_each.new.serializer c.serialize_from_iter_scan_with_each.result
    _ _ (λ es d. subst (λ from. Drains (GivesAs deref_pair g.I.Iterator.next_gives) from (map entry_of es)) (ap (λ e. e.pairs) d.1) (entries_came g.I.Iterator.next_gives (λ e. e.pairs) d.0 es d.2)) c.serialize_from_iter_scan_with_each.ensures
