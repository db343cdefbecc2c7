use Rattle.archive_forms_laws.proofs.Forms.{total}
use Rattle.archive_forms_laws.proofs.ordering.orders_are_total.Goals as goal

pub returns : goal.returns
returns c = total
