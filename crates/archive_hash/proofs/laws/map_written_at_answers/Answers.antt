use Rattle.std.specs.Prelude.{⊤}
use Rattle.archive_shape_layout.specs.Shape.Shape.{tuple}
use Rattle.archive_shape_layout.specs.Shape.Shapes.{no_shapes}
use Rattle.archive_forms_laws.specs.Fields.{unit_spelling}
use Rattle.archive_forms_laws.proofs.Fields.{unit_spells}
use Rattle.archive_hash_maps.proofs.Found.{fx_hash}
use Rattle.archive_hash.specs.Owned.{key_entries}
use Rattle.archive_hash.proofs.Answering.{table_of_entries_answers}
use Rattle.archive_hash.proofs.WrittenAt.{entries_readable, written_entries}
use Rattle.archive_hash.proofs.laws.map_written_at_answers.Goals as goal

pub returns-clause-maps : goal.returns-clause-maps
returns-clause-maps g c names given bytes pos map known small suits readable =
    let k = g.K.Archived.Portable.shape in
    let v = g.V.Archived.Portable.shape in
    let knows = g.K.Archived.Portable.knows in
    let others = g.V.Archived.Portable.knows in
    let keys = g.K.Archive.spelling in
    let vals = g.V.Archive.spelling in
    table_of_entries_answers k v knows others keys vals bytes
    g.K.Archived.KeyOf.key g.K.Archived.ArchivedKey.order g.K.Archived.ArchivedKey.key_of
    (λ x st at h. g.met.K.Archived.KeyOf.represents x st bytes at small h)
    (λ at a b x y query. g.met.K.Archived.ArchivedKey.one_key bytes at a b x y query)
    g.K.Hash.hash_input g.Q.Hash.hash_input g.met.K.Archived.HashedKeyOf.hashed_as_key
    (λ a b same. g.met.K.Archived.HashedKey.alike.fed a b same) _
    (λ query hash is. fx_hash (g.Q.Hash.hash_input query) hash is) pos map.map.entries
    (written_entries k v knows others keys vals g.K.Hash.hash_input g.met.K.Archive.spells g.met.V.Archive.spells names known given bytes pos map.map.entries suits
    (entries_readable k v knows others keys vals g.K.Hash.hash_input g.met.K.Archive.spells g.met.V.Archive.spells names known given bytes pos (λ m. m.map.entries) map readable))

pub returns-clause-sets : goal.returns-clause-sets
returns-clause-sets g c names given bytes pos set known small suits readable =
    let k = g.K.Archived.Portable.shape in
    let knows = g.K.Archived.Portable.knows in
    let keys = g.K.Archive.spelling in
    let es = key_entries set.set.keys in
    table_of_entries_answers k (tuple no_shapes) knows (λ _. ⊤) keys unit_spelling bytes
    g.K.Archived.KeyOf.key g.K.Archived.ArchivedKey.order g.K.Archived.ArchivedKey.key_of
    (λ x st at h. g.met.K.Archived.KeyOf.represents x st bytes at small h)
    (λ at a b x y query. g.met.K.Archived.ArchivedKey.one_key bytes at a b x y query)
    g.K.Hash.hash_input g.Q.Hash.hash_input g.met.K.Archived.HashedKeyOf.hashed_as_key
    (λ a b same. g.met.K.Archived.HashedKey.alike.fed a b same) _
    (λ query hash is. fx_hash (g.Q.Hash.hash_input query) hash is) pos es
    (written_entries k (tuple no_shapes) knows (λ _. ⊤) keys unit_spelling g.K.Hash.hash_input g.met.K.Archive.spells (λ fit. unit_spells fit (λ _. ⊤)) names known given bytes pos es suits
    (entries_readable k (tuple no_shapes) knows (λ _. ⊤) keys unit_spelling g.K.Hash.hash_input g.met.K.Archive.spells (λ fit. unit_spells fit (λ _. ⊤)) names known given bytes pos (λ s. key_entries s.set.keys) set readable))
