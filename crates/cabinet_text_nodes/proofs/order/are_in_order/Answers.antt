use Rattle.cabinet_text_nodes.proofs.Walks.{in_order, not_in_order}
use Rattle.cabinet_text_nodes.proofs.order.are_in_order.Goals as goal

pub returns-in-Some : goal.returns-in-Some
returns-in-Some c = in_order c.args.wholes.now c.args.root.now c.in-Some.complete c.in-Some.ensures

pub returns-in-None : goal.returns-in-None
returns-in-None c = not_in_order c.args.wholes.now c.args.root.now c.in-None.ensures
