use Rattle.std.proofs.Common.{refl, ap, length, arith}
use Rattle.archive_hash_maps.specs.Walks.{BegunMap, items_of}
use Rattle.archive_hash_maps.proofs.Roots.{places_of_value}
use Rattle.archive_hash_tests.proofs.sealing.passes_values.Goals as goal

pub loop-at-init : goal.loop-at-init
loop-at-init g c =
    let m = places_of_value c.requires in
    let begun : BegunMap g.K.Portable.shape g.V.Portable.shape g.K.Portable.knows g.V.Portable.knows =
    record { bytes = c.args.map.bytes.now; pos = c.args.map.pos; buckets = m.buckets; has = c.requires; places = m.table }
    in
    let has = c.values_seal-values.ensures.values begun refl refl in
    record { begun = begun; left = items_of begun; has = has.0; written = has.1 }

pub loop-at-smaller : goal.loop-at-smaller
loop-at-smaller g c =
    let i = c.loop-at.invariant in
    let s = c.in-Some.ensures.steps i.begun i.left i.has i.written in
    omega (arith, i.has.count, s.4.count, ap length s.2)

pub loop-at-preserved : goal.loop-at-preserved
loop-at-preserved g c =
    let i = c.loop-at.invariant in
    let s = c.in-Some.ensures.steps i.begun i.left i.has i.written in
    record { begun = i.begun; left = s.1; has = s.4; written = rw c.in-Some.ensures.bytes i.written }
