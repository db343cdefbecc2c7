use Rattle.cabinet_text_nodes.specs.View.{item_of}
use Rattle.cabinet_text_grammar.proofs.Completing.{step_completes, step_completed}
use Rattle.cabinet_text_reading.specs.View.{stack_of}
use Rattle.cabinet_text_reading.proofs.stack.completing.completes.Goals as goal

pub returns-then-ends_alone : goal.returns-then-ends_alone
returns-then-ends_alone c table depth admitted = (
  λ all. step_completes table depth (stack_of table c.args.stack.now) (item_of c.args.head.now) admitted (c.ends_alone.ensures.0 c.if-ends_alone.true) ((c.all_lack_one.ensures table).0 all),
  λ t. (c.all_lack_one.ensures table).1 (step_completed table depth (stack_of table c.args.stack.now) (item_of c.args.head.now) t.0 admitted t.1).1,
)
