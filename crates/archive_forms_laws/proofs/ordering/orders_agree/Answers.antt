use Rattle.archive_forms_laws.proofs.Forms.{agree}
use Rattle.archive_forms_laws.proofs.ordering.orders_agree.Goals as goal

pub returns : goal.returns
returns c = agree
