use Rattle.std.proofs.Common.{◌≡◌, ◌∙◌, ◌+◌, ◌-◌, ◌∷◌, refl, ap, sym, arith}
use Rattle.std.specs.Prelude.{slice_index}
use Rattle.archive_btree_maps.specs.SearchingNodes.{entry_of}
use Rattle.archive_btree_maps.proofs.NodeTree.{tree_readable}
use Rattle.archive_btree_maps.proofs.Walked.{top_frame, passed, dropped, dropped_stack}
use Rattle.archive_btree_maps.proofs.Reached.{child_reached}
use Rattle.archive_btree_maps.proofs.nodes.searching.walk.pass_entry.Goals as goal

pub loop-stack-init : goal.loop-stack-init
loop-stack-init c = record { stands = c.requires; left = refl; reached = λ root nodes. nodes }

pub entry_count-requires : goal.entry_count-requires
entry_count-requires c =
    let s = c.loop-stack.stack in
    let f = top_frame c.args.bytes.now c.args.layout s.nodes s.nexts s.depth (s.depth - 1) (omega arith) c.loop-stack.invariant.stands in
    tree_readable c.args.bytes.now c.args.layout (s.depth - 1 + 1) _ f.tree f.stands (omega arith)

pub child_of-requires-clause-node : goal.child_of-requires-clause-node
child_of-requires-clause-node c =
    let s = c.loop-stack.stack in
    let f = top_frame c.args.bytes.now c.args.layout s.nodes s.nexts s.depth (s.depth - 1) (omega arith) c.loop-stack.invariant.stands in
    tree_readable c.args.bytes.now c.args.layout (s.depth - 1 + 1) _ f.tree f.stands (omega arith)

pub entry_of-requires-clause-node : goal.entry_of-requires-clause-node
entry_of-requires-clause-node c =
    let s = c.loop-stack.stack in
    let f = top_frame c.args.bytes.now c.args.layout s.nodes s.nexts s.depth (s.depth - 1) (omega arith) c.loop-stack.invariant.stands in
    tree_readable c.args.bytes.now c.args.layout (s.depth - 1 + 1) _ f.tree f.stands (omega arith)

pub push_first-requires-clause-stands : goal.push_first-requires-clause-stands
push_first-requires-clause-stands c =
    let s = c.loop-stack.stack in
    (passed c.args.bytes.now c.args.layout s.nodes s.nexts s.depth (s.depth - 1) (omega arith) c.loop-stack.invariant.stands (omega arith)).stands

pub push_first-requires-clause-leads : goal.push_first-requires-clause-leads
push_first-requires-clause-leads c =
    let s = c.loop-stack.stack in
    rw c.child_of.ensures ((passed c.args.bytes.now c.args.layout s.nodes s.nexts s.depth (s.depth - 1) (omega arith) c.loop-stack.invariant.stands (omega arith)).leads)

pub returns-then-next-entry_count-clause-items : goal.returns-then-next-entry_count-clause-items
returns-then-next-entry_count-clause-items c =
    let s = c.loop-stack.stack in
    let p = passed c.args.bytes.now c.args.layout s.nodes s.nexts s.depth (s.depth - 1) (omega arith) c.loop-stack.invariant.stands (omega arith) in
    let after = rw c.child_of.ensures at c.push_first.ensures.items in
    rw c.entry_of.ensures (c.loop-stack.invariant.left ∙ p.left ∙ ap (λ rest. entry_of c.args.layout (slice_index s.nodes (s.depth - 1)) (slice_index s.nexts (s.depth - 1)) ∷ rest) (sym after))

pub loop-stack-preserved : goal.loop-stack-preserved
loop-stack-preserved c =
    let s = c.loop-stack.stack in
    record {
      stands = dropped_stack c.args.bytes.now c.args.layout s.nodes s.nexts s.depth (s.depth - 1) (omega arith) c.loop-stack.invariant.stands;
      left = c.loop-stack.invariant.left ∙ dropped c.args.bytes.now c.args.layout s.nodes s.nexts s.depth (s.depth - 1) (omega arith) (omega arith);
      reached = λ root nodes d below. c.loop-stack.invariant.reached root nodes d (omega arith);
    }

pub returns-then-next-entry_count-clause-reached : goal.returns-then-next-entry_count-clause-reached
returns-then-next-entry_count-clause-reached c root nodes =
    let s = c.loop-stack.stack in
    let own = c.loop-stack.invariant.reached root nodes in
    c.push_first.ensures.reached root own
    (rw c.child_of.ensures
    (child_reached c.args.bytes.now c.args.layout root s.depth (s.depth - 1) (slice_index s.nodes (s.depth - 1)) (slice_index s.nexts (s.depth - 1) + 1) (omega arith) (own (s.depth - 1) (omega arith)) (omega arith)))

pub returns-clause-reached : goal.returns-clause-reached
returns-clause-reached c root nodes = c.loop-stack.invariant.reached root nodes

pub returns-clause-items : goal.returns-clause-items
returns-clause-items c =
    let none : c.loop-stack.stack.depth ≡ 0 = omega arith in
    (c.loop-stack.invariant.left ∙ rw none refl, rw none refl)
