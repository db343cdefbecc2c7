use Rattle.std.proofs.Common.{[]}
use Rattle.archive_shape_layout.specs.Bytes.{align_up}
use Rattle.archive_shape_canonical.specs.Settled.{free}
use Rattle.archive_example_stock.proofs.written.maps_are_written.Goals as goal

pub returns : goal.returns
unfolding align_up
returns c stock bytes pos written =
    let whole = c.views_are_written.ensures.seen_readable (λ s. (s.prices, s.counts, s.shelves, s.labels)) stock bytes pos [] written.keys written.readable in
    let each = c.fields_are_readable.ensures.of_four (stock.prices, stock.counts, stock.shelves, stock.labels) bytes pos free [] written.keys ((tt, tt), (tt, tt), (tt, tt), tt) written.suits whole in (
      record { keys = written.keys; suits = written.suits.0; are_bytes = written.are_bytes; readable = each.0 },
      record { keys = written.keys; suits = written.suits.1.0; are_bytes = written.are_bytes; readable = each.1 },
      record { keys = written.keys; suits = written.suits.1.1.0; are_bytes = written.are_bytes; readable = each.2 },
    )
