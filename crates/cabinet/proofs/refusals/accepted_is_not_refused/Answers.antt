use Rattle.cabinet.proofs.RefusalLemmas.{accepted_is_not_refused_law}
use Rattle.cabinet.proofs.refusals.accepted_is_not_refused.Goals as goal

pub returns : goal.returns
returns c = accepted_is_not_refused_law
