use Rattle.cabinet_text_reading.proofs.Compared.{own_text_told}
use Rattle.cabinet_text_reading.proofs.stack.key.is_own_text.Goals as goal

pub returns-in-Some : goal.returns-in-Some
returns-in-Some c = own_text_told c.args.argument.now c.in-Some.len c.in-Some.ensures
