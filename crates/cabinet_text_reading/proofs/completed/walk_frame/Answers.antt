use Rattle.std.proofs.Common.{subst}
use Rattle.cabinet_text_nodes.specs.Order.{WalksNodes}
use Rattle.cabinet_text_reading.proofs.Roots.{list_walked, map_walked}
use Rattle.cabinet_text_reading.proofs.completed.walk_frame.Goals as goal

pub returns-in-List : goal.returns-in-List
returns-in-List c =
    list_walked c.args.wholes.now c.args.frame.now c.in-List.count c.in-List.nodes c.args.next c.walk_nodes.result c.in-List.is
    (subst (λ ns. WalksNodes c.args.wholes.now ns c.args.next c.walk_nodes.result) c.deref.ensures.value c.walk_nodes.ensures)

pub returns-in-Value : goal.returns-in-Value
returns-in-Value c = map_walked c.args.wholes.now c.args.frame.now c.in-Value.count c.in-Value.pairs c.args.next c.walk_keyed.result c.in-Value.is c.walk_keyed.ensures
