use Rattle.std.proofs.Common.{◌≡◌, ◌+◌, ◌-◌, ◌<◌, refl, ◌∙◌, suc, length, get_or, sym, ap, subst, arith, IfOk}
use Rattle.std.specs.Prelude.{vec_len}
use Rattle.cabinet_text_grammar.specs.Frame.{AreOpen}
use Rattle.cabinet_text_grammar.specs.Machine.{plug, going}
use Rattle.cabinet_text_nodes.specs.View.{node_tree}
use Rattle.cabinet_text_reading.specs.View.{stack_of, state_of}
use Rattle.cabinet_text_reading.specs.declared.stack.frame.Frame.TheVariants as frame
use Rattle.cabinet_text_reading.proofs.Taken.{on_err_given}
use Rattle.cabinet_text_reading.proofs.Stacks.{unchanged, changed, list_open, counted_items}
use Rattle.cabinet_text_reading.proofs.stack.taking.put_in.Goals as goal
use Rattle.cabinet_text_reading.proofs.stack.taking.put_in.Goals.{in_default-frame-via-in-List+else-len-count, in_default-frame-via-in-Maybe-1}

pub returns-in_ok-push-in-List-clause-next : goal.returns-in_ok-push-in-List-clause-next
returns-in_ok-push-in-List-clause-next c table around are =
    let list = frame.List c.in-List.count c.in-List.nodes in
    let some = c.in-Some.ensures.variant.0 refl in
    let long : length c.args.stack.now.items ≡ suc (vec_len c.args.stack.now - 1) = omega (arith, counted_items c.args.stack.now, some) in
    let there : get_or c.args.stack.now.items (vec_len c.args.stack.now - 1) list ≡ list =
    subst (λ f. get_or c.args.stack.now.items (vec_len c.args.stack.now - 1) f ≡ f) c.in-List.is (sym c.in-Some.ensures.value) in
    let stacks = changed table c.args.stack.now.items (vec_len c.args.stack.now - 1) list (frame.List c.in-List.count c.push.new.self) long there in
    let more : length c.in-List.nodes.items + 1 < c.in-List.count = subst (λ i. i + 1 < c.in-List.count) (c.len.ensures ∙ sym (counted_items c.in-List.nodes)) c.if-len-count.true in
    ap going stacks.2 ∙ list_open table c.in-List.nodes.items c.push.new.self.items c.args.complete c.in-List.count stacks.0 c.in_ok-push-in-List.ensures.items more ∙ ap (plug (node_tree table c.args.complete)) (sym stacks.1)

pub returns-in_default-frame-clause-next : goal.returns-in_default-frame-clause-next
returns-in_default-frame-clause-next c table around are =
    let items = c.args.stack.now.items in
    let last = vec_len c.args.stack.now - 1 in
    let there = c.in-Some.ensures.value in
    let same : c.in_default-frame.stack.items ≡ items =
    elim c.in_default-frame.branch [
      | in_default-frame-via-in-List+else-len-count w ↦ ap (λ v. v.items) w.stack-is ∙ unchanged items last (frame.List w.in-List.count w.in-List.nodes) c.in-Some.frame.now w.in-List.is there
      | in_default-frame-via-in-Maybe-1 w ↦ ap (λ v. v.items) w.stack-is ∙ unchanged items last c.in-Some.frame.now c.in-Some.frame.now refl there
    ] in
    let opens = subst (λ fs. AreOpen table around (stack_of table fs)) (sym same) are in
    subst
    (λ fs. IfOk c.close_with.result (λ next. state_of table next c.close_with.new.stack.items ≡ plug (node_tree table c.args.complete) (stack_of table fs)))
    same (c.close_with.ensures table around opens)

pub returns-in_default-frame-clause-memory : goal.returns-in_default-frame-clause-memory
returns-in_default-frame-clause-memory c = on_err_given c.close_with.result (c.in-Some.ensures.variant.0 refl)
