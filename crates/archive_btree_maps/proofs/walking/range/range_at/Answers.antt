use Rattle.std.proofs.Common.{sym, subst}
use Rattle.archive_btree_layout.specs.Tree.{items}
use Rattle.archive_btree_maps.specs.Ranges.{IsRun}
use Rattle.archive_btree_maps.proofs.Roots.{tree_of_value}
use Rattle.archive_btree_maps.proofs.walking.range.range_at.Goals as goal

pub over-requires : goal.over-requires
over-requires g c =
    let m = tree_of_value c.requires.has in
    let w = c.walk_between.ensures.within m.search_tree m.map in
    (w.1.layout, w.1.root, w.0, w.1.left)

pub returns-clause-within : goal.returns-clause-within
returns-clause-within g c t h =
    let w = c.walk_between.ensures.within t h in
    subst (λ es. IsRun es (items t)) (sym (c.over.ensures w.1.layout w.1.root w.0 w.1.left)) w.2

pub returns-clause-between : goal.returns-clause-between
returns-clause-between g c t order h queries =
    let w = c.walk_between.ensures.between t order h queries in
    c.over.ensures w.layout w.root _ w.left
