use Rattle.std.proofs.Common.{◌≡◌, ◌+◌, ◌*◌, subst, arith, below_more}
use Rattle.std.specs.declared.cmp.Ordering.TheVariants.{Greater}
use Rattle.archive_btree_maps.specs.Searching.{AreBelow}
use Rattle.archive_btree_maps.proofs.nodes.searching.search.search_keys.Goals as goal

pub returns-in-Less : goal.returns-in-Less
returns-in-Less g c = (omega arith, c.loop-i.invariant, λ below. c.in-Less.ensures)

pub returns-in-Equal : goal.returns-in-Equal
returns-in-Equal g c = (c.loop-i-test.true, c.loop-i.invariant, c.in-Equal.ensures)

pub loop-i-preserved : goal.loop-i-preserved
loop-i-preserved g c =
    below_more (λ i. goal.F-post g c.args.compare.now (c.args.first + i * c.args.size) Greater) c.loop-i.i c.loop-i.invariant c.in-Greater.ensures

pub returns : goal.returns
returns g c =
    let end : c.loop-i.i ≡ c.args.count = omega arith in
    (omega arith, subst (AreBelow (λ i r. goal.F-post g c.args.compare.now (c.args.first + i * c.args.size) r)) end c.loop-i.invariant, λ below. absurd (omega arith))
