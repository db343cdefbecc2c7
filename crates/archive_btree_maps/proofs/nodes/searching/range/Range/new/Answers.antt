use Rattle.std.proofs.Common.{sym, subst}
use Rattle.archive_btree_layout.specs.Tree.{items}
use Rattle.archive_btree_maps.specs.Ranges.{IsRun}
use Rattle.archive_btree_maps.proofs.nodes.searching.range.Range.new.Goals as goal

pub over-requires : goal.over-requires
over-requires g c =
    let t = c.requires.tree in
    let w = c.between.ensures.within t.0 t.1 in
    (c.args.layout, c.args.root, w.0, w.1)

pub returns-clause-within : goal.returns-clause-within
returns-clause-within g c t is =
    let w = c.between.ensures.within t is in
    subst (λ es. IsRun es (items t)) (sym (c.over.ensures c.args.layout c.args.root w.0 w.1)) w.2

pub returns-clause-between : goal.returns-clause-between
returns-clause-between g c t p q is precedes follows starts stays =
    c.over.ensures c.args.layout c.args.root _ (c.between.ensures.between t p q is precedes follows starts stays)
