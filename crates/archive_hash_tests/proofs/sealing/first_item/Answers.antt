use Rattle.std.proofs.Common.{refl}
use Rattle.archive_hash_maps.specs.Walks.{BegunTable, items_of}
use Rattle.archive_hash_maps.proofs.Roots.{places_of_value}
use Rattle.archive_hash_tests.proofs.sealing.first_item.Goals as goal

pub next-requires : goal.next-requires
next-requires g c =
    let m = places_of_value c.requires in
    let begun : BegunTable g.T.Portable.shape g.T.Portable.knows =
    record { bytes = c.args.of.bytes.now; pos = c.args.of.pos; buckets = m.buckets; has = c.requires; places = m.table }
    in
    let has = c.raw_iter_seal-items.ensures.items begun refl refl in
    (begun, items_of begun, has.0, has.1)
