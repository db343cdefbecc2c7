use Rattle.std.proofs.Common.{arith, ◌≡◌, ◌+◌, ◌*◌, max, refl, ◌∙◌}
use Rattle.archive_shape_layout.specs.Shape.{size_of, align_of}
use Rattle.archive_shape_layout.specs.Content.{keys_offset, values_offset, node_size, links_offset, link_node_size, link_node_align}
use Rattle.archive_forms_values.proofs.Claimed.{elements_cut}
use Rattle.archive_btree_maps.proofs.Offsets.{field_behind, field_at}
use Rattle.archive_btree_maps.proofs.Layouts.{layout_is, links_within}
use Rattle.archive_btree_maps.proofs.nodes.layout.NodeLayout.of.Goals as goal

pub returns-clause-parts : goal.returns-clause-parts
unfolding keys_offset values_offset node_size links_offset link_node_size link_node_align
returns-clause-parts g c =
    let k = g.K.Portable.shape in
    let v = g.V.Portable.shape in
    let key_aligned = c.ALIGN.ensures ∙ g.met.K.Portable.aligned in
    let keys = field_at 1 1 c.ALIGN.result (align_of k) c.next_multiple-keys.result (omega arith) key_aligned c.next_multiple-keys.ensures in
    let values = field_behind (keys_offset k) c.next_multiple-keys.result (g.row.E * size_of k) c.saturating_mul.result c.saturating_add-keys_end.result c.ALIGN-2.result (align_of v) c.next_multiple-values.result
    keys (elements_cut _ g.row.E c.SIZE.result (size_of k) c.saturating_mul.ensures (c.SIZE.ensures ∙ g.met.K.Portable.sized)) c.saturating_add-keys_end.ensures
    (c.ALIGN-2.ensures ∙ g.met.V.Portable.aligned) c.next_multiple-values.ensures in
    let align : c.greater-align.result ≡ max (align_of k) (align_of v) =
    omega (arith, c.greater-align.ensures, c.ALIGN-3.ensures, c.ALIGN-4.ensures, g.met.K.Portable.aligned, g.met.V.Portable.aligned) in
    let size = field_behind (values_offset g.row.E k v) c.next_multiple-values.result (g.row.E * size_of v) c.saturating_mul-2.result c.saturating_add-values_end.result c.greater-align.result (max (align_of k) (align_of v)) c.next_multiple-size.result
    values (elements_cut _ g.row.E c.SIZE-2.result (size_of v) c.saturating_mul-2.ensures (c.SIZE-2.ensures ∙ g.met.V.Portable.sized)) c.saturating_add-values_end.ensures
    align c.next_multiple-size.ensures in
    let links = field_at (node_size g.row.E k v) c.next_multiple-size.result 4 4 c.next_multiple-links.result size refl c.next_multiple-links.ensures in
    let link_align : c.greater-link_align.result ≡ link_node_align k v = omega (arith, c.greater-link_align.ensures, align) in
    let leaf = field_behind (links_offset g.row.E k v) c.next_multiple-links.result (1 * 4) 4 c.saturating_add-leaf_end.result c.greater-link_align.result (link_node_align k v) c.next_multiple.result
    links (omega arith) c.saturating_add-leaf_end.ensures link_align c.next_multiple.ensures in
    let inner = field_behind (links_offset g.row.E k v) c.next_multiple-links.result ((g.row.E + 1) * 4) c.saturating_mul-3.result c.saturating_add-inner_end.result c.greater-link_align.result (link_node_align k v) c.next_multiple-2.result
    links (omega (arith, c.saturating_mul-3.ensures, c.saturating_add.ensures)) c.saturating_add-inner_end.ensures link_align c.next_multiple-2.ensures in
    record { entries = refl; keys = keys; key_size = c.SIZE-3.ensures ∙ g.met.K.Portable.sized; values = values; value_size = c.SIZE-4.ensures ∙ g.met.V.Portable.sized; size = size; align = align; links = links; leaf = leaf; inner = inner; link_align = link_align }

pub returns-clause-exact : goal.returns-clause-exact
returns-clause-exact g c some below = layout_is g.row.E g.K.Portable.shape g.V.Portable.shape _ some below (returns-clause-parts g c)

pub returns-clause-buffer : goal.returns-clause-buffer
returns-clause-buffer g c bytes level pos t some small n =
    let within = links_within g.row.E g.K.Portable.shape g.V.Portable.shape bytes level pos t n in
    returns-clause-exact g c some (omega arith)
