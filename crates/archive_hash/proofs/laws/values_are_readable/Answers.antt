use Rattle.std.proofs.Common.{◌≡◌, ℕ, List}
use Rattle.archive_shape_canonical.specs.Hash.{hash_words, words_of}
use Rattle.archive_shape_canonical.specs.Settled.{free}
use Rattle.archive_forms_writing.proofs.FoundReadable.{found_readable}
use Rattle.archive_hash_probing.specs.declared.scanning.hashing.FxHasher64.{FxHasher64}
use Rattle.archive_hash_maps.proofs.Found.{fx_hash}
use Rattle.archive_hash_maps.specs.Maps.{HashesTo, value_at}
use Rattle.archive_hash.proofs.Answering.{table_of_entries_finds}
use Rattle.archive_hash.proofs.WrittenAt.{HasReadableValue, entries_readable, values_readable, written_entries}
use Rattle.archive_hash.proofs.laws.values_are_readable.Goals as goal

-- an input hashes to this by `FxHasher64`
abbrev FxHashesTo : List (List ℕ) → ℕ → Type 0
FxHashesTo input hash = HashesTo {H = FxHasher64} (λ h. h.state ≡ 0) (λ h bytes. record { state = hash_words h.state (words_of bytes) }) (λ h. h.state) input hash

pub returns : goal.returns
returns g c names given map this query found known small suits readable gets =
    let k = g.K.Archived.Portable.shape in
    let v = g.V.Archived.Portable.shape in
    let knows = g.K.Archived.Portable.knows in
    let others = g.V.Archived.Portable.knows in
    let keys = g.K.Archive.spelling in
    let vals = g.V.Archive.spelling in
    let fed = g.K.Hash.hash_input in
    let bytes = this.bytes.now in
    let es = map.map.entries in
    let by_key = g.met.K.Archive.spells in
    let by_value = g.met.V.Archive.spells in
    let there = entries_readable k v knows others keys vals fed by_key by_value names known given bytes this.pos (λ m. m.map.entries) map readable in
    let finds =
    table_of_entries_finds k v knows others keys vals bytes
    g.K.Archived.KeyOf.key g.K.Archived.ArchivedKey.order g.K.Archived.ArchivedKey.key_of
    (λ x st at h. g.met.K.Archived.KeyOf.represents x st bytes at small h)
    (λ at a b x y query. g.met.K.Archived.ArchivedKey.one_key bytes at a b x y query)
    fed g.Q.Hash.hash_input g.met.K.Archived.HashedKeyOf.hashed_as_key
    (λ a b same. g.met.K.Archived.HashedKey.alike.fed a b same) (λ q. FxHashesTo (g.Q.Hash.hash_input q))
    (λ query hash is. fx_hash (g.Q.Hash.hash_input query) hash is)
    (HasReadableValue k v knows others keys vals fed by_key by_value names known given bytes this.pos) this.pos es
    (written_entries k v knows others keys vals fed by_key by_value names known given bytes this.pos es suits there)
    (values_readable k v knows others keys vals fed by_key by_value names known given bytes this.pos es suits there)
    in
    let looked = gets finds.buckets finds.there in
    found_readable free names given v vals (value_at this.bytes k v) _ looked.answers.position found looked.answers.is
    (finds.finds query looked.hash looked.strides looked.answers.position looked.is_hash looked.answers.looks_up)
