use Rattle.std.proofs.Common.{sym, subst}
use Rattle.std.specs.List.{IsDistinct}
use Rattle.archive_shape_layout.specs.Shape.Shape.{tuple}
use Rattle.archive_shape_layout.specs.Shape.Shapes.{no_shapes}
use Rattle.archive_forms_laws.specs.Fields.{unit_spelling}
use Rattle.archive_forms.specs.Reading.{reads_as}
use Rattle.archive_forms.proofs.AlikeParts.{keys_back}
use Rattle.archive_hash_probing.specs.Inputs.{input_hash}
use Rattle.archive_hash.specs.Owned.{key_entries}
use Rattle.archive_hash.proofs.ReadAlike.{entries_reread, map_reread, set_reread}
use Rattle.archive_hash.proofs.laws.maps_are_read_back.Goals as goal

pub returns-clause-maps : goal.returns-clause-maps
returns-clause-maps g c = λ m r distinct h.
    let laws = g.met.K.Eq.laws in
    let keys = g.K.Archive.spelling in
    let vals = g.V.Archive.spelling in
    let k = g.K.Archived.Portable.shape in
    let v = g.V.Archived.Portable.shape in
    map_reread laws keys vals c.requires.alike k v g.A.ReadBack.reads g.B.ReadBack.reads c.requires.keys c.requires.values m.map r.map distinct
    (entries_reread laws keys vals c.requires.alike k v g.A.ReadBack.reads g.B.ReadBack.reads c.requires.keys c.requires.values 7 8 (λ e. input_hash (g.K.Hash.hash_input e.0)) m.map.entries h.0 r.map.entries distinct h.1 h.2)

pub returns-clause-sets : goal.returns-clause-sets
returns-clause-sets g c = λ s r distinct h.
    let laws = g.met.K.Eq.laws in
    let keys = g.K.Archive.spelling in
    let es = key_entries s.set.keys in
    let apart = subst (IsDistinct g.K.PartialEq.eq) (sym (keys_back s.set.keys)) distinct in
    let read = entries_reread laws keys unit_spelling c.requires.alike g.K.Archived.Portable.shape (tuple no_shapes) g.A.ReadBack.reads (reads_as unit_spelling) c.requires.keys (λ v x e. e) 7 8 (λ e. input_hash (g.K.Hash.hash_input e.0)) es h.0 (key_entries r.set.keys) apart h.1 h.2 in
    set_reread laws keys unit_spelling c.requires.alike s.set r.set read.0 read.1 read.2
