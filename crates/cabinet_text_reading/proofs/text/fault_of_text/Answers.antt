use Rattle.std.proofs.Common.{◌+◌, length, sym, ◌∙◌}
use Rattle.std.proofs.lemmas.Bool.{true≢false}
use Rattle.cabinet_text_grammar.specs.Reading.{around}
use Rattle.cabinet_text_grammar.proofs.Completing.{step_completes, step_completed}
use Rattle.cabinet_text_reading.specs.View.{stack_of}
use Rattle.cabinet_text_reading.specs.Wholes.{table_in, reading_of}
use Rattle.cabinet_text_reading.proofs.Stacks.{head_told}
use Rattle.cabinet_text_reading.proofs.Loop.{head_admitted, text_admitted, text_number, text_ends, memory_open, memory_new, tree_refused}
use Rattle.cabinet_text_reading.proofs.text.fault_of_text.Goals as goal

pub returns-then-not-all_lack_one : goal.returns-then-not-all_lack_one
returns-then-not-all_lack_one c i is at memory =
    let table = table_in c.args.wholes.now in
    let fs = stack_of table c.args.stack.now in
    let d = around c.args.wholes.now.lacking + length c.args.stack.now in
    let head = text_admitted table d i is in
    let admitted = head_admitted d c.args.wholes.now.lacking table fs i (head_told table (around c.args.wholes.now.lacking) c.args.stack.now) head in
    memory_open (reading_of c.args.wholes.now fs) i admitted
    (λ t done. absurd (true≢false (sym ((c.all_lack_one.ensures table).1 (step_completed table d fs i t head done).1) ∙ c.if-not-all_lack_one.true))) memory

pub returns-in-Ok : goal.returns-in-Ok
returns-in-Ok c i is at memory =
    let table = table_in c.args.wholes.now in
    let fs = stack_of table c.args.stack.now in
    let d = around c.args.wholes.now.lacking + length c.args.stack.now in
    let head = text_admitted table d i is in
    let admitted = head_admitted d c.args.wholes.now.lacking table fs i (head_told table (around c.args.wholes.now.lacking) c.args.stack.now) head in
    let done = step_completes table d fs i head (text_ends i is) ((c.all_lack_one.ensures table).0 c.if-not-all_lack_one.false) in
    memory_new (reading_of c.args.wholes.now fs) i done.0 admitted done.1 (c.in-Ok.ensures i done.0 (text_number i is) at admitted done.1).0 memory

pub returns-in-Err : goal.returns-in-Err
returns-in-Err c i is at memory =
    let table = table_in c.args.wholes.now in
    let fs = stack_of table c.args.stack.now in
    let d = around c.args.wholes.now.lacking + length c.args.stack.now in
    let head = text_admitted table d i is in
    let admitted = head_admitted d c.args.wholes.now.lacking table fs i (head_told table (around c.args.wholes.now.lacking) c.args.stack.now) head in
    let done = step_completes table d fs i head (text_ends i is) ((c.all_lack_one.ensures table).0 c.if-not-all_lack_one.false) in
    tree_refused (reading_of c.args.wholes.now fs) i done.0 c.in-Err.cause admitted done.1 (c.in-Err.ensures i done.0 (text_number i is) at admitted done.1).1
