use Rattle.std.proofs.Common.{ap, ◌∙◌}
use Rattle.cabinet_text_grammar.specs.Machine.{going}
use Rattle.cabinet_text_nodes.proofs.Views.{node_tree-list}
use Rattle.cabinet_text_reading.specs.View.{stack_of}
use Rattle.cabinet_text_reading.specs.declared.stack.frame.Frame.TheVariants as frame
use Rattle.cabinet_text_reading.proofs.Stacks.{stack_of-push}
use Rattle.cabinet_text_reading.proofs.Taken.{pushed_list}
use Rattle.cabinet_text_reading.proofs.stack.taking.open_list.Goals as goal

pub returns-then-count-eq0-clause-next : goal.returns-then-count-eq0-clause-next
returns-then-count-eq0-clause-next c table around are =
    let next = rw (node_tree-list table c.new-nodes.result, c.new-nodes.ensures.items) at (c.put_in.ensures.next table around are) in
    rw c.if-count-eq0.true next

pub returns-clause-next : goal.returns-clause-next
returns-clause-next c table around are =
    ap going (ap (stack_of table) c.in_ok-push.ensures.items ∙ stack_of-push table c.args.stack.now.items (frame.List c.args.count c.new-nodes.result))
    ∙ pushed_list table c.args.count c.new-nodes.result.items (stack_of table c.args.stack.now.items) c.new-nodes.ensures.items c.if-count-eq0.false
