use Rattle.std.proofs.Common.{sym, subst}
use Rattle.std.specs.Prelude.{⊤}
use Rattle.std.specs.List.Sorted.{IsStrictlySortedBy}
use Rattle.archive_shape_layout.specs.Shape.Shape.{tuple}
use Rattle.archive_shape_layout.specs.Shape.Shapes.{no_shapes}
use Rattle.archive_forms.proofs.AlikeParts.{keys_back}
use Rattle.archive_forms_laws.specs.Fields.{unit_spelling}
use Rattle.archive_forms_laws.proofs.Fields.{unit_spells}
use Rattle.archive_btree.specs.Owned.{key_entries}
use Rattle.archive_btree.proofs.Answering.{read_answers}
use Rattle.archive_btree.proofs.InOrder.{keys_ascend}
use Rattle.archive_btree.proofs.WrittenAt.{standing_map, unshared_map}
use Rattle.archive_btree.proofs.laws.set_written_at_answers.Goals as goal

pub returns-clause-shared : goal.returns-clause-shared
returns-clause-shared g c = λ bytes pos names keys fit some small known suits written stand.
    let ks = c.args.set.now.set.keys in
    let es = key_entries ks in
    read_answers
    g.row.E g.K.Archived.Portable.shape (tuple no_shapes) g.K.Archived.Portable.knows (λ _. ⊤) g.K.Archive.spelling unit_spelling bytes
    g.K.Archived.KeyOf.key g.K.Archived.ArchivedKey.order g.met.K.Archived.ArchivedKey.is_total g.K.Archived.ArchivedKey.key_of
    (λ x st at h. g.met.K.Archived.KeyOf.represents x st bytes at small h)
    (λ at a b x y query. g.met.K.Archived.ArchivedKey.one_key bytes at a b x y query)
    pos es written.state some
    (standing_map (λ s. key_entries s.set.keys) g.row.E g.K.Archived.Portable.shape (tuple no_shapes) g.K.Archived.Portable.knows (λ _. ⊤) g.K.Archive.spelling unit_spelling g.met.K.Archive.spells (λ f. unit_spells f (λ _. ⊤)) bytes pos names known some keys c.args.set.now written fit suits stand)
    (keys_ascend g.K.Ord.cmp g.K.Archived.KeyOf.key g.K.Archived.ArchivedKey.order g.met.K.Archived.OrderedKeyOf.in_order es (subst (IsStrictlySortedBy g.K.Ord.cmp) (sym (keys_back ks)) c.len-len.ensures.ordered))

pub returns-clause-unshared : goal.returns-clause-unshared
returns-clause-unshared g c = λ bytes pos names keys some small known none written.
    let ks = c.args.set.now.set.keys in
    let es = key_entries ks in
    read_answers
    g.row.E g.K.Archived.Portable.shape (tuple no_shapes) g.K.Archived.Portable.knows (λ _. ⊤) g.K.Archive.spelling unit_spelling bytes
    g.K.Archived.KeyOf.key g.K.Archived.ArchivedKey.order g.met.K.Archived.ArchivedKey.is_total g.K.Archived.ArchivedKey.key_of
    (λ x st at h. g.met.K.Archived.KeyOf.represents x st bytes at small h)
    (λ at a b x y query. g.met.K.Archived.ArchivedKey.one_key bytes at a b x y query)
    pos es written.state some
    (unshared_map (λ s. key_entries s.set.keys) g.row.E g.K.Archived.Portable.shape (tuple no_shapes) g.K.Archived.Portable.knows (λ _. ⊤) g.K.Archive.spelling unit_spelling g.met.K.Archive.spells (λ f. unit_spells f (λ _. ⊤)) bytes pos names known some keys c.args.set.now written none)
    (keys_ascend g.K.Ord.cmp g.K.Archived.KeyOf.key g.K.Archived.ArchivedKey.order g.met.K.Archived.OrderedKeyOf.in_order es (subst (IsStrictlySortedBy g.K.Ord.cmp) (sym (keys_back ks)) c.len-len.ensures.ordered))
