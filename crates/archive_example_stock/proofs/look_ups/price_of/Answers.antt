use Rattle.std.proofs.Common.{[]}
use Rattle.archive_example_stock.proofs.look_ups.price_of.Goals as goal

pub returns : goal.returns
returns c stock written =
    let prices = (c.maps_are_written.ensures stock c.args.root.bytes.now c.args.root.pos written).0 in
    c.number_found.ensures prices.keys _ (c.values_are_readable.ensures [] prices.keys stock.prices c.prices.result c.args.name c.get.result (tt, tt)
    (rw c.prices.ensures.bytes prices.are_bytes) prices.suits (rw (c.prices.ensures.bytes, c.prices.ensures.pos) prices.readable) c.get.ensures.answers)
