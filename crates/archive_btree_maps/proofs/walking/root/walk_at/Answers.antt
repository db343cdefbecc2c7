use Rattle.std.proofs.Common.{◌∙◌, ap, sym}
use Rattle.archive_btree_layout.specs.Tree.{items}
use Rattle.archive_btree_maps.proofs.Roots.{map_count, tree_of_value}
use Rattle.archive_btree_maps.proofs.walking.root.walk_at.Goals as goal

pub new-requires : goal.new-requires
new-requires g c =
    let m = tree_of_value c.requires.has in
    record { tree = (m.search_tree, c.in-Some.ensures.tree m.search_tree m.map, map_count m.map ∙ sym c.count_at.ensures) }

pub returns-in-Some : goal.returns-in-Some
returns-in-Some g c t h = c.new.ensures t (c.in-Some.ensures.tree t h)

pub returns-in-None : goal.returns-in-None
returns-in-None g c t h = c.empty.ensures ∙ sym (ap items (c.in-None.ensures.tree t h))
