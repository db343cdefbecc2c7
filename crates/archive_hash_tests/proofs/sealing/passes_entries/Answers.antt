use Rattle.std.proofs.Common.{refl, ap, length, arith}
use Rattle.archive_hash_maps.specs.Walks.{BegunMap, items_of}
use Rattle.archive_hash_maps.proofs.Roots.{places_of_value}
use Rattle.archive_hash_tests.proofs.sealing.passes_entries.Goals as goal

pub loop-entry-init : goal.loop-entry-init
loop-entry-init g c =
    let m = places_of_value c.requires in
    let begun : BegunMap g.K.Portable.shape g.V.Portable.shape g.K.Portable.knows g.V.Portable.knows =
    record { bytes = c.args.map.bytes.now; pos = c.args.map.pos; buckets = m.buckets; has = c.requires; places = m.table }
    in
    let has = c.iter_seal-entries.ensures.entries begun refl refl in
    record { begun = begun; left = items_of begun; has = has.0; written = has.1 }

pub loop-entry-smaller : goal.loop-entry-smaller
loop-entry-smaller g c =
    let i = c.loop-entry.invariant in
    let s = c.in-Some.ensures.steps i.begun i.left i.has i.written in
    omega (arith, i.has.count, s.4.count, ap length s.1)

pub loop-entry-preserved : goal.loop-entry-preserved
loop-entry-preserved g c =
    let i = c.loop-entry.invariant in
    let s = c.in-Some.ensures.steps i.begun i.left i.has i.written in
    record { begun = i.begun; left = s.0; has = s.4; written = rw c.in-Some.ensures.bytes i.written }
