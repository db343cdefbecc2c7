use Rattle.cabinet_documents.proofs.Orders.{edits_in_either_order_law}
use Rattle.cabinet_documents.proofs.laws.edits_in_either_order.Goals as goal

pub returns : goal.returns
returns c = edits_in_either_order_law
