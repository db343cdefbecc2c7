use Rattle.archive_shape_layout.specs.Shape.Shape.{index_map}
use Rattle.archive_forms_writing.proofs.Readable.{seen_readable_law}
use Rattle.archive_hash_maps.proofs.Found.{fx_hash}
use Rattle.archive_index.specs.declared.owned.OwnedIndexMap.{OwnedIndexMap}
use Rattle.archive_index.proofs.InOrder.{map_of_answers}
use Rattle.archive_index.proofs.Readable.{found_readable}
use Rattle.archive_index.proofs.WrittenPairs.{map_there}
use Rattle.archive_index.proofs.laws.values_are_readable.Goals as goal

pub returns : goal.returns
returns g c names given fit map this query found known are suits readable gets =
    let k = g.K.Archived.Portable.shape in
    let v = g.V.Archived.Portable.shape in
    let knows = g.K.Archived.Portable.knows in
    let others = g.V.Archived.Portable.knows in
    let keys = g.K.Archive.spelling in
    let vals = g.V.Archive.spelling in
    let es = map.pairs.items in
    let bytes = this.bytes.now in
    let listed = seen_readable_law (index_map k v) _ _ (λ (m : OwnedIndexMap _ _). m.pairs.items) map bytes this.pos names given readable in
    let answers =
    map_of_answers k v knows others keys vals bytes
    g.K.Archived.KeyOf.key g.K.Archived.ArchivedKey.order g.K.Archived.ArchivedKey.key_of
    (λ x st at h. g.met.K.Archived.KeyOf.represents x st bytes at are h)
    (λ at a b x y query. g.met.K.Archived.ArchivedKey.one_key bytes at a b x y query)
    g.K.Hash.hash_input g.Q.Hash.hash_input g.met.K.Archived.HashedKeyOf.hashed_as_key
    (λ a b same. g.met.K.Archived.HashedKey.alike.fed a b same) _
    (λ query hash is. fx_hash (g.Q.Hash.hash_input query) hash is) es this.pos
    (map_there k v knows others keys vals g.K.Hash.hash_input g.met.K.Archive.spells g.met.V.Archive.spells fit names given bytes this.pos es known suits listed) in
    found_readable k v knows others keys vals g.K.Hash.hash_input g.met.K.Archive.spells g.met.V.Archive.spells fit names given known
    g.K.Archived.KeyOf.key g.K.Archived.ArchivedKey.order g.K.Archived.ArchivedKey.key_of _ this es suits.0 listed answers query found (gets answers.map answers.stands)
