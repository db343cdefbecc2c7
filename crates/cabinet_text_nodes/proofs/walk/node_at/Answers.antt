use Rattle.std.proofs.Common.{ap, sym, ◌∙◌, drop, ◌+◌, arith}
use Rattle.cabinet_text_nodes.specs.View.{node_tree, table_of, step_of, path_of}
use Rattle.cabinet_text_nodes.proofs.Paths.{then_at, rest_at, legal_behind}
use Rattle.cabinet_text_nodes.proofs.walk.node_at.Goals as goal

pub returns-in_err-node : goal.returns-in_err-node
returns-in_err-node c is legal =
    let rest = path_of (drop (c.loop-step.step-index + 1) c.args.path.now) in
    rw c.from_residual.ensures
    (ap (λ found. then_at found rest) (c.in_err-node.ensures is (c.loop-step.invariant is legal).0)
    ∙ sym (rest_at (node_tree (table_of c.args.wholes.now) c.loop-step.node.now) c.args.path.now c.loop-step.step-index c.step-item.result (omega arith) c.step-item.is)
    ∙ (c.loop-step.invariant is legal).1)

pub loop-step-preserved : goal.loop-step-preserved
loop-step-preserved c is legal =
    let table = table_of c.args.wholes.now in
    let rest = path_of (drop (c.loop-step.step-index + 1) c.args.path.now) in (
      legal_behind (node_tree table c.loop-step.node.now) (step_of c.step-item.result) (node_tree table c.in_ok-node.node.now) (c.loop-step.invariant is legal).0 (sym (c.in_ok-node.ensures is (c.loop-step.invariant is legal).0)),
      ap (λ found. then_at found rest) (c.in_ok-node.ensures is (c.loop-step.invariant is legal).0)
          ∙ sym (rest_at (node_tree table c.loop-step.node.now) c.args.path.now c.loop-step.step-index c.step-item.result (omega arith) c.step-item.is)
          ∙ (c.loop-step.invariant is legal).1,
    )
