use Rattle.std.proofs.Common.{◌+◌, ◌<◌, ◌^◌, [], length, refl, arith}
use Rattle.archive_btree_maps.proofs.NodeTree.{tree_level, tree_readable}
use Rattle.archive_btree_maps.proofs.Walked.{leads_some, pushed}
use Rattle.archive_btree_maps.proofs.Reached.{reached_on}
use Rattle.archive_btree_maps.proofs.nodes.searching.walk.push_first.Goals as goal

pub loop-child-init : goal.loop-child-init
loop-child-init c = record { pushes = record { stands = c.requires.stands; leads = c.requires.leads; left = refl }; reached = λ root nodes child. (nodes, child) }

pub offset_bounds-stack-stack : goal.offset_bounds-stack-stack
offset_bounds-stack-stack c = let w = c.loop-child.invariant.pushes.stands.within in omega arith

pub bounds-stack-stack : goal.bounds-stack-stack
bounds-stack-stack c =
    let at = leads_some c.args.bytes.now c.args.layout (c.loop-child.stack.depth + 1) c.loop-child.child c.in-Some.pos c.loop-child.invariant.pushes.leads c.in-Some.is in
    omega (arith, tree_level c.args.bytes.now c.args.layout (c.loop-child.stack.depth + 1) c.in-Some.pos at.0 at.1)

pub offset_bounds-stack-stack-in-Some : goal.offset_bounds-stack-stack-in-Some
offset_bounds-stack-stack-in-Some c = let w = c.loop-child.invariant.pushes.stands.within in omega arith

pub bounds-stack-stack-in-Some : goal.bounds-stack-stack-in-Some
bounds-stack-stack-in-Some c =
    let at = leads_some c.args.bytes.now c.args.layout (c.loop-child.stack.depth + 1) c.loop-child.child c.in-Some.pos c.loop-child.invariant.pushes.leads c.in-Some.is in
    omega (arith, tree_level c.args.bytes.now c.args.layout (c.loop-child.stack.depth + 1) c.in-Some.pos at.0 at.1)

pub overflow_add-stack : goal.overflow_add-stack
overflow_add-stack c = let w = c.loop-child.invariant.pushes.stands.within in omega arith

pub child_of-child-requires-clause-node : goal.child_of-child-requires-clause-node
child_of-child-requires-clause-node c =
    let at = leads_some c.args.bytes.now c.args.layout (c.loop-child.stack.depth + 1) c.loop-child.child c.in-Some.pos c.loop-child.invariant.pushes.leads c.in-Some.is in
    let small : length c.args.bytes.now < 2 ^ 64 = omega arith in
    tree_readable c.args.bytes.now c.args.layout (c.loop-child.stack.depth + 1) c.in-Some.pos at.0 at.1 small

pub loop-child-smaller : goal.loop-child-smaller
loop-child-smaller c =
    let at = leads_some c.args.bytes.now c.args.layout (c.loop-child.stack.depth + 1) c.loop-child.child c.in-Some.pos c.loop-child.invariant.pushes.leads c.in-Some.is in
    omega (arith, tree_level c.args.bytes.now c.args.layout (c.loop-child.stack.depth + 1) c.in-Some.pos at.0 at.1)

pub loop-child-preserved : goal.loop-child-preserved
loop-child-preserved c =
    let i = c.loop-child.invariant in
    let s = i.pushes.stands in
    let at = leads_some c.args.bytes.now c.args.layout (c.loop-child.stack.depth + 1) c.loop-child.child c.in-Some.pos i.pushes.leads c.in-Some.is in
    let level = tree_level c.args.bytes.now c.args.layout (c.loop-child.stack.depth + 1) c.in-Some.pos at.0 at.1 in
    record {
      pushes =
          pushed c.args.bytes.now c.args.layout c.loop-child.stack.nodes c.loop-child.stack.nexts c.loop-child.stack.depth c.in-Some.pos 0 c.loop-child.child c.child_of-child.result [] _
          i.pushes c.in-Some.is (omega arith) c.child_of-child.ensures;
      reached = λ root nodes child.
          reached_on c.args.bytes.now c.args.layout root c.loop-child.stack.nodes c.loop-child.stack.depth c.in-Some.pos 0 c.loop-child.child c.child_of-child.result s (i.reached root nodes child) c.in-Some.is
          (omega arith) (omega arith) c.child_of-child.ensures;
    }

pub returns-clause-stands : goal.returns-clause-stands
returns-clause-stands c = c.loop-child.invariant.pushes.stands

pub returns-clause-reached : goal.returns-clause-reached
returns-clause-reached c root nodes child = (c.loop-child.invariant.reached root nodes child).0

pub returns-clause-items : goal.returns-clause-items
returns-clause-items c = rw c.in_default.is at c.loop-child.invariant.pushes.left
