use Rattle.std.proofs.Common.{ap, ◌∙◌}
use Rattle.cabinet_text_grammar.specs.Machine.{going}
use Rattle.cabinet_text_reading.specs.View.{stack_of}
use Rattle.cabinet_text_reading.specs.declared.stack.frame.Frame.TheVariants as frame
use Rattle.cabinet_text_reading.proofs.Stacks.{stack_of-push}
use Rattle.cabinet_text_reading.proofs.stack.taking.open_option.Goals as goal

pub returns : goal.returns
returns c table = ap going (ap (stack_of table) c.in_ok-push.ensures.items ∙ stack_of-push table c.args.stack.now.items frame.Maybe)
