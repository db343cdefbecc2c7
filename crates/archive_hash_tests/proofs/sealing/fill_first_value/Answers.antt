use Rattle.std.proofs.Common.{refl}
use Rattle.archive_hash_maps.specs.Walks.{BegunMap, items_of}
use Rattle.archive_hash_maps.proofs.Roots.{places_of_value}
use Rattle.archive_hash_tests.proofs.sealing.fill_first_value.Goals as goal

pub next-requires : goal.next-requires
next-requires g c =
    let m = places_of_value c.requires in
    let begun : BegunMap g.K.Portable.shape g.V.Portable.shape g.K.Portable.knows g.V.Portable.knows =
    record { bytes = c.args.map.bytes.now; pos = c.args.map.pos; buckets = m.buckets; has = c.requires; places = m.table }
    in
    let has = c.values_seal-values.ensures.values begun refl refl in
    (begun, items_of begun, has.0, has.1)
