use Rattle.std.proofs.Common.{refl, ap, length, arith}
use Rattle.archive_hash_maps.specs.Walks.{BegunTable, items_of}
use Rattle.archive_hash_maps.proofs.Roots.{places_of_value}
use Rattle.archive_hash_tests.proofs.sealing.passes_items.Goals as goal

pub loop-at-init : goal.loop-at-init
loop-at-init g c =
    let m = places_of_value c.requires in
    let begun : BegunTable g.T.Portable.shape g.T.Portable.knows =
    record { bytes = c.args.of.bytes.now; pos = c.args.of.pos; buckets = m.buckets; has = c.requires; places = m.table }
    in
    let has = c.raw_iter_seal-items.ensures.items begun refl refl in
    record { begun = begun; left = items_of begun; has = has.0; written = has.1 }

pub loop-at-smaller : goal.loop-at-smaller
loop-at-smaller g c =
    let i = c.loop-at.invariant in
    let s = c.in-Some.ensures.steps i.begun i.left i.has i.written in
    omega (arith, i.has.count, s.2.count, ap length s.1)

pub loop-at-preserved : goal.loop-at-preserved
loop-at-preserved g c =
    let i = c.loop-at.invariant in
    let s = c.in-Some.ensures.steps i.begun i.left i.has i.written in
    record { begun = i.begun; left = s.0; has = s.2; written = rw c.in-Some.ensures.bytes i.written }
