use Rattle.std.proofs.Common.{◌≡◌, ◌+◌, subst, arith, refl}
use Rattle.archive_btree_maps.specs.SearchingLayout.{IsTreeAt}
use Rattle.archive_btree_maps.specs.Stepping.IsReached.{is_root}
use Rattle.archive_btree_maps.proofs.Walked.{root_items, empty_stack}
use Rattle.archive_btree_maps.proofs.nodes.searching.walk.Stack.at_root.Goals as goal

pub push_first-requires-clause-stands : goal.push_first-requires-clause-stands
push_first-requires-clause-stands c = empty_stack c.args.bytes.now c.args.layout _ _ _ c.new-stack.ensures.nodes c.new-stack.ensures.nexts c.new-stack.ensures.depth

pub push_first-requires-clause-leads : goal.push_first-requires-clause-leads
push_first-requires-clause-leads c =
    let here : 1 ≡ c.new-stack.result.depth + 1 = omega (arith, c.new-stack.ensures.depth) in
    (c.requires.0, subst (λ i. IsTreeAt c.args.bytes.now c.args.layout i c.args.root c.requires.0) here c.requires.1)

pub returns-clause-items : goal.returns-clause-items
returns-clause-items c t is =
    root_items c.args.bytes.now c.args.layout c.new-stack.result.nodes c.new-stack.result.nexts c.new-stack.result.depth c.args.root t _ c.new-stack.ensures.depth is c.push_first.ensures.items

pub returns-clause-reached : goal.returns-clause-reached
returns-clause-reached c =
    c.push_first.ensures.reached c.args.root
    (λ d below. absurd (omega (arith, c.new-stack.ensures.depth)))
    (is_root c.new-stack.ensures.depth refl)
