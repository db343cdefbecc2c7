use Rattle.std.proofs.Common.{◌<◌, ◌-◌, length, arith, refl, rules}
use Rattle.std.proofs.lemmas.List.Elements.{All-get_or}
use Rattle.archive_hash_writing.proofs.Standing.{places_are, placed_first, placed_next}
use Rattle.archive_hash_writing.proofs.places.place_items.Goals as goal

pub loop-i-init : goal.loop-i-init
loop-i-init g c = placed_first c.args.capacity (length c.args.items.now) c.args.places.now c.args.items.now c.in-Ok.table.items (omega arith) (c.in-Ok.ensures.items_if_clones_equal (λ y h. search rules))

pub index_mut-requires : goal.index_mut-requires
index_mut-requires g c =
    let i = c.loop-i.i in
    let less : i - 1 < length c.args.places.now = omega (arith, c.loop-i-test.true, c.loop-i.auto.i, c.requires.even) in
    let low = All-get_or (λ p. p < c.args.capacity) c.args.places.now (i - 1) 0 less c.requires.within in
    let many = places_are c.args.capacity _ _ c.loop-i.table.items c.loop-i.invariant in
    omega (arith, low, many, c.loop-i.table.ok)

pub loop-i-preserved : goal.loop-i-preserved
loop-i-preserved g c =
    let i = c.loop-i.i in
    let less : i - 1 < length c.args.places.now = omega (arith, c.loop-i-test.true, c.loop-i.auto.i, c.requires.even) in
    let low = All-get_or (λ p. p < c.args.capacity) c.args.places.now (i - 1) 0 less c.requires.within in
    placed_next c.args.capacity i _ c.args.places.now c.args.items.now c.loop-i.table.items _ _ c.loop-i-test.true c.loop-i.auto.i c.requires.even low refl c.index-items-i.is c.loop-i.invariant refl
