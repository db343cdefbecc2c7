use Rattle.std.proofs.Common.{◌≡◌, ◌∙◌, ◌+◌, arith}
use Rattle.archive_shape_layout.specs.Bytes.{word_at}
use Rattle.archive_btree_maps.proofs.Roots.{map_points, map_root, some_entries, tree_of_value}
use Rattle.archive_btree_maps.proofs.walking.root.root_at.Goals as goal

pub target_of-requires-clause-leads : goal.target_of-requires-clause-leads
target_of-requires-clause-leads g c = map_points (λ e. c.if-count_at-eq0.false (c.count_at.ensures ∙ e)) (tree_of_value c.requires.has).map

pub returns-clause-leads : goal.returns-clause-leads
returns-clause-leads g c =
    let some : word_at c.args.bytes.now (c.args.pos + 4) ≡ 0 → ⊥ = λ e. c.if-count_at-eq0.false (c.count_at.ensures ∙ e) in
    let m = tree_of_value c.requires.has in
    let node = map_root c.target_of.result some c.target_of.ensures m.map in
    (c.target_of.ensures, c.of.ensures.buffer c.args.bytes.now 1 c.target_of.result m.search_tree (some_entries some m.map) (omega arith) node)

pub returns-clause-tree : goal.returns-clause-tree
returns-clause-tree g c t h =
    let some : word_at c.args.bytes.now (c.args.pos + 4) ≡ 0 → ⊥ = λ e. c.if-count_at-eq0.false (c.count_at.ensures ∙ e) in
    let node = map_root c.target_of.result some c.target_of.ensures h in
    record {
      most = g.row.E;
      key = g.K.Portable.shape;
      value = g.V.Portable.shape;
      layout = c.of.ensures.buffer c.args.bytes.now 1 c.target_of.result t (some_entries some h) (omega arith) node;
      node = node;
    }
