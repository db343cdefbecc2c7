use Rattle.std.proofs.Common.{subst, sym, Some}
use Rattle.cabinet_text_reading.specs.Wholes.{WalksRoot}
use Rattle.cabinet_text_reading.proofs.Roots.{root_stopped, root_alone, root_of_whole}
use Rattle.cabinet_text_reading.proofs.completed.walk_root.Goals as goal

pub returns-in-Some : goal.returns-in-Some
returns-in-Some c =
    subst (λ number. WalksRoot c.args.wholes.now c.args.stack.now number c.walk_node.result) (sym c.in-Some.is) (root_of_whole c.args.wholes.now c.args.stack.now c.in-Some.number c.in_ok-next.next c.walk_node.result c.in_ok-next.ensures c.walk_node.ensures)

pub returns-in-None : goal.returns-in-None
returns-in-None c = subst (λ number. WalksRoot c.args.wholes.now c.args.stack.now number (Some c.in_ok-next.next)) (sym c.in-None.is) (root_alone c.args.wholes.now c.args.stack.now c.in_ok-next.next c.in_ok-next.ensures)

pub returns-in_err-next : goal.returns-in_err-next
returns-in_err-next c = rw c.from_residual.ensures (root_stopped c.args.wholes.now c.args.stack.now c.args.number c.in_err-next.ensures)
