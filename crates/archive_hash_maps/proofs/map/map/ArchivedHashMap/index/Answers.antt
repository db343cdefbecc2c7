use Rattle.archive_hash_maps.specs.Maps.{HashesTo, value_at}
use Rattle.archive_hash_maps.proofs.Present.{key_is_found}
use Rattle.archive_hash_maps.proofs.map.map.ArchivedHashMap.index.Goals as goal

pub unwrap-requires : goal.unwrap-requires
unwrap-requires g c =
    let k = g.K.Portable.shape in
    let v = g.V.Portable.shape in
    let bytes = c.args.this.bytes.now in
    let query = c.args.query.now in
    let h = c.requires.present in
    key_is_found (HashesTo g.H.Default.is_default g.H.Hasher.write g.H.Hasher.finish (g.Q.Hash.hash_input query)) g.K.ArchivedKey.key_of g.K.ArchivedKey.order bytes k v c.args.this.pos query
    (λ at a b x y. g.met.K.ArchivedKey.one_key bytes at a b x y query) (value_at {V = g.row.V.Denot} c.args.this.bytes k v) h c.get.result (c.get.ensures.answers h.buckets h.map)
