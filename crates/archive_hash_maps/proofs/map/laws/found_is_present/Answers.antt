use Rattle.archive_hash_maps.specs.Maps.{HashesTo, value_at}
use Rattle.archive_hash_maps.proofs.Found.{found_is_present}
use Rattle.archive_hash_maps.proofs.Roots.{places_of_value}
use Rattle.archive_hash_maps.proofs.map.laws.found_is_present.Goals as goal

pub returns : goal.returns
returns g c =
    let k = g.K.Portable.shape in
    let v = g.V.Portable.shape in
    let bytes = c.args.this.bytes.now in
    let query = c.args.query.now in
    let p = places_of_value c.requires.has in
    found_is_present (HashesTo g.H.Default.is_default g.H.Hasher.write g.H.Hasher.finish (g.Q.Hash.hash_input query)) g.K.ArchivedKey.key_of g.K.ArchivedKey.order bytes k v c.args.this.pos query
    (value_at {V = g.row.V.Denot} c.args.this.bytes k v) p.buckets c.args.found c.requires.one p.table (c.requires.found p.buckets p.table)
