use Rattle.std.proofs.Common.{◌^◌, ◌<◌, sym, subst}
use Rattle.archive_hash_probing.proofs.Small.{input_hash_small}
use Rattle.archive_hash_maps.proofs.Found.{fx_hash}
use Rattle.archive_hash.proofs.Edited.{edit_answers, fx_hashes, fx_some}
use Rattle.archive_hash.proofs.laws.edited_map_answers.Goals as goal

pub returns : goal.returns
returns g c bytes out pos query b es one_key_value one_value small small_out once edit =
    let looked = edit.found in
    edit_answers g.K.Archived.Portable.shape g.V.Archived.Portable.shape g.K.Archived.Portable.knows g.V.Archived.Portable.knows g.K.Archive.spelling g.V.Archive.spelling
    one_key_value one_value bytes out
    g.K.Archived.KeyOf.key g.K.Archived.ArchivedKey.order g.K.Archived.ArchivedKey.key_of
    (λ x st at h. g.met.K.Archived.KeyOf.represents x st bytes at small h)
    (λ x st at h. g.met.K.Archived.KeyOf.represents x st out at small_out h)
    (λ at x y h i other. g.met.K.Archived.ArchivedKey.one_key bytes at x y h i other)
    (λ at x y h i other. g.met.K.Archived.ArchivedKey.one_key out at x y h i other)
    (λ other. fx_hashes (g.Q.Hash.hash_input other))
    (λ other hash is. subst (λ n. n < 2 ^ 64) (sym (fx_hash (g.Q.Hash.hash_input other) hash is)) (input_hash_small (g.Q.Hash.hash_input other)))
    (λ other. fx_some (g.Q.Hash.hash_input other))
    pos es query b edit.at edit.answers edit.has
    looked.hash looked.strides looked.answers.position looked.is_hash looked.answers.is looked.answers.looks_up once edit.differs edit.held
