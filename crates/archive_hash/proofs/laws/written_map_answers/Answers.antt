use Rattle.archive_hash_maps.proofs.Found.{fx_hash}
use Rattle.archive_hash.proofs.Answering.{map_answers}
use Rattle.archive_hash.proofs.laws.written_map_answers.Goals as goal

pub returns : goal.returns
returns g c bytes es m =
    map_answers g.K.Archived.Portable.shape g.V.Archived.Portable.shape g.K.Archived.Portable.knows g.V.Archived.Portable.knows g.K.Archive.spelling g.V.Archive.spelling bytes
    g.K.Archived.KeyOf.key g.K.Archived.ArchivedKey.order g.K.Archived.ArchivedKey.key_of
    (λ x st pos h. g.met.K.Archived.KeyOf.represents x st bytes pos m.archive.bytes_are h)
    (λ pos a b x y query. g.met.K.Archived.ArchivedKey.one_key bytes pos a b x y query)
    g.K.Hash.hash_input g.Q.Hash.hash_input g.met.K.Archived.HashedKeyOf.hashed_as_key
    (λ a b same. g.met.K.Archived.HashedKey.alike.fed a b same) _
    (λ query hash is. fx_hash (g.Q.Hash.hash_input query) hash is) es m
