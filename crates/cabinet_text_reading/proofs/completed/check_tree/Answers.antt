use Rattle.std.proofs.Common.{arith, sym, ◌∙◌, subst}
use Rattle.std.proofs.lemmas.Bool.{true≢false}
use Rattle.cabinet_text_grammar.specs.Wholes.{has}
use Rattle.cabinet_text_reading.specs.View.{stack_of}
use Rattle.cabinet_text_reading.specs.Wholes.{table_in}
use Rattle.cabinet_text_reading.proofs.Roots.{is_whole, new_whole, old_whole, DecidesOrder, order_told, new_root}
use Rattle.cabinet_text_reading.proofs.completed.check_tree.Goals as goal

pub returns-then-is_new : goal.returns-then-is_new
returns-then-is_new c i t same at p completed =
    let w = c.args.wholes.now in
    let whole = is_whole w (stack_of (table_in w) c.args.stack.now) i t c.args.lines.now c.if-wholes-gt0.true at p completed in
    let told = c.is_new.ensures t at.known (omega (arith, at.reading.counted)) at.reading.table whole.legal whole.numbered whole.lines_are in
    (new_whole w.lacking (table_in w) t c.if-wholes-gt0.true (sym c.if-is_new.true ∙ told), tt)

pub returns-else-is_new : goal.returns-else-is_new
returns-else-is_new c i t same at p completed =
    let w = c.args.wholes.now in
    let whole = is_whole w (stack_of (table_in w) c.args.stack.now) i t c.args.lines.now c.if-wholes-gt0.true at p completed in
    let told = c.is_new.ensures t at.known (omega (arith, at.reading.counted)) at.reading.table whole.legal whole.numbered whole.lines_are in
    (tt, (c.if-wholes-gt0.true, old_whole (has (table_in w) t) (sym c.if-is_new.false ∙ told)))

pub returns-then-completes_in_order : goal.returns-then-completes_in_order
returns-then-completes_in_order c i t same at p completed =
    let w = c.args.wholes.now in
    let decides = subst (λ ns. DecidesOrder ns c.args.stack.now c.args.number c.completes_in_order.result) c.as_slice.ensures.value c.completes_in_order.ensures in
    let told = order_told w c.args.stack.now c.args.number c.completes_in_order.result i t c.args.lines.now decides same at completed in
    (new_root w.lacking (table_in w) t c.if-wholes-gt0.false (told.0 c.if-completes_in_order.true), tt)

pub returns-else-completes_in_order : goal.returns-else-completes_in_order
returns-else-completes_in_order c i t same at p completed =
    let w = c.args.wholes.now in
    let decides = subst (λ ns. DecidesOrder ns c.args.stack.now c.args.number c.completes_in_order.result) c.as_slice.ensures.value c.completes_in_order.ensures in
    let told = order_told w c.args.stack.now c.args.number c.completes_in_order.result i t c.args.lines.now decides same at completed in
    (tt, (omega (arith, c.if-wholes-gt0.false), λ is. true≢false (sym (told.1 is) ∙ c.if-completes_in_order.false)))
