use Rattle.std.proofs.Common.{lit<}
use Rattle.archive_shape_layout.specs.Bytes.{align_up}
use Rattle.archive_shape_layout.specs.Content.{keys_offset, values_offset, node_size, links_offset, link_node_align, link_node_size}
use Rattle.cabinet_archives.proofs.mapping.nodes.tree_layout.Goals as goal

pub returns-clause-layout : goal.returns-clause-layout
unfolding keys_offset values_offset node_size links_offset align_up
returns-clause-layout c = c.of.ensures.exact (lit< tt) (lit< tt)

pub returns-clause-leaf : goal.returns-clause-leaf
unfolding keys_offset values_offset node_size links_offset link_node_align link_node_size align_up
returns-clause-leaf c = c.of.ensures.parts.leaf

pub returns-clause-inner : goal.returns-clause-inner
unfolding keys_offset values_offset node_size links_offset link_node_align link_node_size align_up
returns-clause-inner c = c.of.ensures.parts.inner
