use Rattle.std.proofs.Common.{[]}
use Rattle.archive_example_stock.proofs.look_ups.count_of.Goals as goal

pub returns : goal.returns
returns c stock written =
    let counts = (c.maps_are_written.ensures stock c.args.root.bytes.now c.args.root.pos written).1 in
    c.number_found.ensures counts.keys _ (c.values_are_readable.ensures [] counts.keys stock.counts c.counts.result c.args.shelf c.get.result (tt, tt)
    (rw c.counts.ensures.bytes counts.are_bytes) counts.suits (rw (c.counts.ensures.bytes, c.counts.ensures.pos) counts.readable) c.get.ensures.answers)
