use Rattle.std.proofs.Common.{◌+◌, ◌*◌, ◌≤◌, refl, arith, mul-le-mul_right}
use Rattle.archive_btree_layout.specs.Tree.{items}
use Rattle.archive_btree_maps.proofs.NodeTree.{tree_level, tree_readable}
use Rattle.archive_btree_maps.proofs.Walked.{leads_some, node_same}
use Rattle.archive_btree_maps.proofs.Passing.{own_callable, passing_on, passing_root, passing_left, passing_rest}
use Rattle.archive_btree_maps.specs.Stepping.IsReached.{is_root}
use Rattle.archive_btree_maps.proofs.Reached.{reached_on}
use Rattle.archive_btree_maps.proofs.nodes.searching.walk.Stack.after_passing.Goals as goal

pub loop-child-init : goal.loop-child-init
loop-child-init g c =
    let n = c.new-stack.ensures in
    record {
      passing =
          passing_root c.args.bytes.now c.args.layout (goal.F-pre g) (goal.F-post g) c.args.passes.now _ _ _ c.args.root 32 c.requires.tree.0 n.nodes n.nexts n.depth (omega (arith, n.depth)) c.requires.tree.1
          c.requires.tree.2;
      reached = ((λ d below. absurd (omega (arith, n.depth))), is_root n.depth refl);
    }

pub entry_count-count-requires : goal.entry_count-count-requires
entry_count-count-requires g c =
    let at = leads_some c.args.bytes.now c.args.layout (c.loop-child.stack.depth + 1) c.loop-child.child c.in-Some.pos c.loop-child.invariant.passing.pushes.leads c.in-Some.is in
    tree_readable c.args.bytes.now c.args.layout (c.loop-child.stack.depth + 1) c.in-Some.pos at.0 at.1 (omega arith)

pub overflow_add-pos : goal.overflow_add-pos
overflow_add-pos g c =
    let at = leads_some c.args.bytes.now c.args.layout (c.loop-child.stack.depth + 1) c.loop-child.child c.in-Some.pos c.loop-child.invariant.passing.pushes.leads c.in-Some.is in
    let r = tree_readable c.args.bytes.now c.args.layout (c.loop-child.stack.depth + 1) c.in-Some.pos at.0 at.1 (omega arith) in
    omega (arith, r.link, r.keys)

pub count_passing-next-requires-clause-callable : goal.count_passing-next-requires-clause-callable
count_passing-next-requires-clause-callable g c i below =
    own_callable c.args.bytes.now c.args.layout (goal.F-pre g) (goal.F-post g) c.args.passes.now _ _ _ c.in-Some.pos _ _ c.loop-child.invariant.passing c.in-Some.is i
    (omega (arith, c.entry_count-count.ensures))

pub count_passing-next-requires-clause-room : goal.count_passing-next-requires-clause-room
count_passing-next-requires-clause-room g c =
    let at = leads_some c.args.bytes.now c.args.layout (c.loop-child.stack.depth + 1) c.loop-child.child c.in-Some.pos c.loop-child.invariant.passing.pushes.leads c.in-Some.is in
    let r = tree_readable c.args.bytes.now c.args.layout (c.loop-child.stack.depth + 1) c.in-Some.pos at.0 at.1 (omega arith) in
    let within : c.entry_count-count.result * c.args.layout.key_size ≤ c.args.layout.entries * c.args.layout.key_size =
    mul-le-mul_right c.args.layout.key_size (omega (arith, r.count, c.entry_count-count.ensures))
    in
    omega (arith, r.link, r.keys)

pub bounds-stack-stack : goal.bounds-stack-stack
bounds-stack-stack g c =
    let s = c.loop-child.invariant.passing.pushes.stands in
    let at = leads_some c.args.bytes.now c.args.layout (c.loop-child.stack.depth + 1) c.loop-child.child c.in-Some.pos c.loop-child.invariant.passing.pushes.leads c.in-Some.is in
    omega (arith, s.room, tree_level c.args.bytes.now c.args.layout (c.loop-child.stack.depth + 1) c.in-Some.pos at.0 at.1)

pub bounds-stack-stack-in-Some : goal.bounds-stack-stack-in-Some
bounds-stack-stack-in-Some g c =
    let s = c.loop-child.invariant.passing.pushes.stands in
    let at = leads_some c.args.bytes.now c.args.layout (c.loop-child.stack.depth + 1) c.loop-child.child c.in-Some.pos c.loop-child.invariant.passing.pushes.leads c.in-Some.is in
    omega (arith, s.space, tree_level c.args.bytes.now c.args.layout (c.loop-child.stack.depth + 1) c.in-Some.pos at.0 at.1)

pub child_of-child-requires-clause-node : goal.child_of-child-requires-clause-node
child_of-child-requires-clause-node g c =
    let at = leads_some c.args.bytes.now c.args.layout (c.loop-child.stack.depth + 1) c.loop-child.child c.in-Some.pos c.loop-child.invariant.passing.pushes.leads c.in-Some.is in
    tree_readable c.args.bytes.now c.args.layout (c.loop-child.stack.depth + 1) c.in-Some.pos at.0 at.1 (omega arith)

pub loop-child-smaller : goal.loop-child-smaller
loop-child-smaller g c =
    let at = leads_some c.args.bytes.now c.args.layout (c.loop-child.stack.depth + 1) c.loop-child.child c.in-Some.pos c.loop-child.invariant.passing.pushes.leads c.in-Some.is in
    omega (arith, tree_level c.args.bytes.now c.args.layout (c.loop-child.stack.depth + 1) c.in-Some.pos at.0 at.1)

pub loop-child-preserved : goal.loop-child-preserved
loop-child-preserved g c =
    let n = c.count_passing-next.ensures in
    let at = leads_some c.args.bytes.now c.args.layout (c.loop-child.stack.depth + 1) c.loop-child.child c.in-Some.pos c.loop-child.invariant.passing.pushes.leads c.in-Some.is in
    let level = tree_level c.args.bytes.now c.args.layout (c.loop-child.stack.depth + 1) c.in-Some.pos at.0 at.1 in
    record {
      passing =
          passing_on c.args.bytes.now c.args.layout (goal.F-pre g) (goal.F-post g) c.args.passes.now _ _ _ c.in-Some.pos _ _ c.loop-child.invariant.passing c.in-Some.is
          c.count_passing-next.result c.child_of-child.result (omega (arith, n.within, c.entry_count-count.ensures)) c.child_of-child.ensures n.passed
          (λ below. n.ends (omega (arith, c.entry_count-count.ensures)));
      reached =
          reached_on c.args.bytes.now c.args.layout c.args.root c.loop-child.stack.nodes c.loop-child.stack.depth c.in-Some.pos c.count_passing-next.result c.loop-child.child c.child_of-child.result
          c.loop-child.invariant.passing.pushes.stands c.loop-child.invariant.reached c.in-Some.is (omega arith) (omega (arith, n.within, c.entry_count-count.ensures)) c.child_of-child.ensures;
    }

pub returns-clause-reached : goal.returns-clause-reached
returns-clause-reached g c = c.loop-child.invariant.reached.0

pub returns-clause-left : goal.returns-clause-left
returns-clause-left g c t is =
    passing_left c.args.bytes.now c.args.layout (goal.F-pre g) (goal.F-post g) c.args.passes.now _ _ _ _ _ (items t) c.loop-child.invariant.passing c.in_default.is
    (node_same c.args.bytes.now c.args.layout 32 1 c.args.root t refl is)

pub returns-clause-rest : goal.returns-clause-rest
returns-clause-rest g c t test is =
    passing_rest c.args.bytes.now c.args.layout (goal.F-pre g) (goal.F-post g) c.args.passes.now _ _ _ _ _ (items t) c.loop-child.invariant.passing c.in_default.is
    (node_same c.args.bytes.now c.args.layout 32 1 c.args.root t refl is) test
