use Rattle.std.proofs.Common.{[]}
use Rattle.archive_btree_maps.proofs.nodes.searching.range.Range.empty.Goals as goal

pub over-requires : goal.over-requires
over-requires c = (c.args.layout, 0, [], c.empty.ensures c.args.bytes.now 0)

pub returns : goal.returns
returns c = c.over.ensures c.args.layout 0 [] (c.empty.ensures c.args.bytes.now 0)
