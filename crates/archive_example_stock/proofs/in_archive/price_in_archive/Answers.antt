use Rattle.std.proofs.Common.{[]}
use Rattle.archive_example_stock.proofs.in_archive.price_in_archive.Goals as goal

pub price_of-requires : goal.price_of-requires
price_of-requires c = rw (c.in_ok-root.ensures.bytes, c.in_ok-root.ensures.position) (c.in_ok-root.ensures.value [] ((tt, tt), (tt, tt), (tt, tt), tt))

pub returns : goal.returns
returns c = c.price_of.ensures c.args.stock.now (rw (c.in_ok-root.ensures.bytes, c.in_ok-root.ensures.position, c.as_slice-archive.ensures.value) c.in_ok-bytes.ensures)
