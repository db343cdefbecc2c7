use Rattle.std.proofs.Common.{◌∙◌, length, ap, sym}
use Rattle.archive_btree_maps.proofs.nodes.searching.walk.Walk.new.Goals as goal

pub invariant_of-result : goal.invariant_of-result
invariant_of-result c =
    let t = c.requires.tree in
    (c.at_root.ensures.stands, sym t.2 ∙ ap length (sym (c.at_root.ensures.items t.0 t.1)))
