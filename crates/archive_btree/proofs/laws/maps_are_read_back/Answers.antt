use Rattle.std.proofs.Common.{sym, subst, subst₂}
use Rattle.std.specs.List.{AllZip}
use Rattle.std.specs.List.Sorted.{IsStrictlySortedBy}
use Rattle.archive_shape_layout.specs.Shape.Shape.{tuple}
use Rattle.archive_shape_layout.specs.Shape.Shapes.{no_shapes}
use Rattle.archive_forms_laws.specs.Fields.{unit_spelling}
use Rattle.archive_forms.specs.Alike.{AreAlike}
use Rattle.archive_forms.specs.Reading.{reads_as}
use Rattle.archive_forms.proofs.AlikeParts.{elements_of, entries_of, entries_read, keys_alike, keys_back}
use Rattle.archive_btree.specs.Owned.{key_entries}
use Rattle.archive_btree.proofs.Ascending.{inserted_alike}
use Rattle.archive_btree.proofs.laws.maps_are_read_back.Goals as goal

pub returns-clause-maps : goal.returns-clause-maps
returns-clause-maps g c = λ m r ascend h.
    let keys = g.K.Archive.spelling in
    let vals = g.V.Archive.spelling in
    let pairs = entries_read g.K.Archived.Portable.shape g.V.Archived.Portable.shape keys vals g.A.ReadBack.reads g.B.ReadBack.reads c.requires.keys c.requires.values m.map.entries h.0 h.1 in
    entries_of keys vals m.map.entries r.map.entries (inserted_alike g.met.K.Ord.total g.met.K.Ord.matches_eq keys vals c.requires.alike m.map.entries h.0 r.map.entries pairs ascend h.2)

pub returns-clause-sets : goal.returns-clause-sets
returns-clause-sets g c = λ s r ascend h.
    let keys = g.K.Archive.spelling in
    let es = key_entries s.set.keys in
    let fs = key_entries r.set.keys in
    let pairs = entries_read g.K.Archived.Portable.shape (tuple no_shapes) keys unit_spelling g.A.ReadBack.reads (reads_as unit_spelling) c.requires.keys (λ v x e. e) es h.0 h.1 in
    let still = inserted_alike g.met.K.Ord.total g.met.K.Ord.matches_eq keys unit_spelling c.requires.alike es h.0 fs pairs (subst (IsStrictlySortedBy g.K.Ord.cmp) (sym (keys_back s.set.keys)) ascend) h.2 in
    elements_of keys s.set.keys r.set.keys (subst₂ (AllZip (AreAlike keys)) (keys_back s.set.keys) (keys_back r.set.keys) (keys_alike keys unit_spelling es fs still))
