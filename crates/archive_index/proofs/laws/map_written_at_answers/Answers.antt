use Rattle.std.specs.Prelude.{⊤}
use Rattle.archive_shape_layout.specs.Shape.Shape.{index_map}
use Rattle.archive_forms_laws.specs.Fields.{unit_spelling}
use Rattle.archive_forms_laws.proofs.Fields.{unit_spells}
use Rattle.archive_forms_writing.proofs.Readable.{seen_readable_law}
use Rattle.archive_hash_maps.proofs.Found.{fx_hash}
use Rattle.archive_hash.specs.Owned.{key_entries}
use Rattle.archive_index.specs.Sets.{unit_shape}
use Rattle.archive_index.specs.declared.owned.OwnedIndexMap.{OwnedIndexMap}
use Rattle.archive_index.specs.declared.owned_set.OwnedIndexSet.{OwnedIndexSet}
use Rattle.archive_index.proofs.InOrder.{map_of_answers}
use Rattle.archive_index.proofs.WrittenPairs.{map_there}
use Rattle.archive_index.proofs.laws.map_written_at_answers.Goals as goal

pub returns-clause-maps : goal.returns-clause-maps
returns-clause-maps g c names given fit bytes pos map known are suits readable =
    let k = g.K.Archived.Portable.shape in
    let v = g.V.Archived.Portable.shape in
    let knows = g.K.Archived.Portable.knows in
    let others = g.V.Archived.Portable.knows in
    let keys = g.K.Archive.spelling in
    let vals = g.V.Archive.spelling in
    let listed = seen_readable_law (index_map k v) _ _ (λ (m : OwnedIndexMap _ _). m.pairs.items) map bytes pos names given readable in
    map_of_answers k v knows others keys vals bytes
    g.K.Archived.KeyOf.key g.K.Archived.ArchivedKey.order g.K.Archived.ArchivedKey.key_of
    (λ x st at h. g.met.K.Archived.KeyOf.represents x st bytes at are h)
    (λ at a b x y query. g.met.K.Archived.ArchivedKey.one_key bytes at a b x y query)
    g.K.Hash.hash_input g.Q.Hash.hash_input g.met.K.Archived.HashedKeyOf.hashed_as_key
    (λ a b same. g.met.K.Archived.HashedKey.alike.fed a b same) _
    (λ query hash is. fx_hash (g.Q.Hash.hash_input query) hash is) map.pairs.items pos
    (map_there k v knows others keys vals g.K.Hash.hash_input g.met.K.Archive.spells g.met.V.Archive.spells fit names given bytes pos map.pairs.items known suits listed)

pub returns-clause-sets : goal.returns-clause-sets
returns-clause-sets g c names given fit bytes pos set known are suits readable =
    let k = g.K.Archived.Portable.shape in
    let knows = g.K.Archived.Portable.knows in
    let keys = g.K.Archive.spelling in
    let es = key_entries set.keys.items in
    let listed = seen_readable_law (index_map k unit_shape) _ _ (λ (s : OwnedIndexSet _). key_entries s.keys.items) set bytes pos names given readable in
    map_of_answers k unit_shape knows (λ _. ⊤) keys unit_spelling bytes
    g.K.Archived.KeyOf.key g.K.Archived.ArchivedKey.order g.K.Archived.ArchivedKey.key_of
    (λ x st at h. g.met.K.Archived.KeyOf.represents x st bytes at are h)
    (λ at a b x y query. g.met.K.Archived.ArchivedKey.one_key bytes at a b x y query)
    g.K.Hash.hash_input g.Q.Hash.hash_input g.met.K.Archived.HashedKeyOf.hashed_as_key
    (λ a b same. g.met.K.Archived.HashedKey.alike.fed a b same) _
    (λ query hash is. fx_hash (g.Q.Hash.hash_input query) hash is) es pos
    (map_there k unit_shape knows (λ _. ⊤) keys unit_spelling g.K.Hash.hash_input g.met.K.Archive.spells (λ fit. unit_spells fit (λ _. ⊤)) fit names given bytes pos es known suits listed)
