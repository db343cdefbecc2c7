use Rattle.std.proofs.Common.{[], refl}
use Rattle.archive_shape_canonical.specs.Settled.{free}
use Rattle.archive_example_stock.specs.Answers.{price_with}
use Rattle.archive_example_stock.proofs.Elements.{told_of_element, none_behind}
use Rattle.archive_example_stock.proofs.shops.price_at.Goals as goal

pub get-requires-in-Some : goal.get-requires-in-Some
get-requires-in-Some c =
    let found = c.in-Some.ensures in
    let each = found.2.value c.requires.value c.requires.held in
    let there = each.each c.args.shop found.3.0 in
    record { has = record { value = there.0; held = rw (found.3.1, found.3.2) there.2 } }

pub returns-in-Some : goal.returns-in-Some
returns-in-Some c shops written =
    let found = c.in-Some.ensures in
    let bytes = c.args.root.bytes.now in
    let held = c.part_is_held.ensures shops bytes c.args.root.pos free [] written.keys (tt, tt) written.suits written.readable in
    let each = found.2.value _ held.0 in
    told_of_element shops.items c.args.shop found.1 (c.elements_are_counted.ensures shops.items _ each.elements found.1 each.is each.count) (λ prices. price_with c.args.name.now prices.map.entries) c.number_found.result found.3.0 (λ prices is.
    let here = c.elements_are_written.ensures.readable shops bytes c.args.root.pos found.0 free [] written.keys (tt, tt) written.suits written.readable found.2.points c.args.shop prices is in
    c.number_found.ensures written.keys _ (c.values_are_readable.ensures [] written.keys prices c.in-Some.prices c.args.name c.get-in-Some.result (tt, tt)
    (rw found.3.1 written.are_bytes) (c.unshared_suits.ensures refl prices written.keys) (rw (found.3.1, found.3.2) here) c.get-in-Some.ensures.answers))

pub returns-in-None : goal.returns-in-None
returns-in-None c shops written =
    let found = c.in-None.ensures in
    let held = c.part_is_held.ensures shops c.args.root.bytes.now c.args.root.pos free [] written.keys (tt, tt) written.suits written.readable in
    let each = found.2.value _ held.0 in
    none_behind shops.items c.args.shop found.1 (c.elements_are_counted.ensures shops.items _ each.elements found.1 each.is each.count) (λ prices. price_with c.args.name.now prices.map.entries) found.3
