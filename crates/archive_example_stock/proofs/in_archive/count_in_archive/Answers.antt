use Rattle.std.proofs.Common.{[]}
use Rattle.archive_example_stock.proofs.in_archive.count_in_archive.Goals as goal

pub count_of-requires : goal.count_of-requires
count_of-requires c = rw (c.in_ok-root.ensures.bytes, c.in_ok-root.ensures.position) (c.in_ok-root.ensures.value [] ((tt, tt), (tt, tt), (tt, tt), tt))

pub returns : goal.returns
returns c = c.count_of.ensures c.args.stock.now (rw (c.in_ok-root.ensures.bytes, c.in_ok-root.ensures.position, c.as_slice-archive.ensures.value) c.in_ok-bytes.ensures)
