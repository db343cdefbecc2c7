use Rattle.std.proofs.Common.{◌≡◌, ◌∙◌, ap, sym, subst, IfOk, FitsSigned, w64, inr}
use Rattle.std.proofs.lemmas.Result.{on_err_weaker}
use Rattle.std.proofs.Math.Facts.{to_z-of_z}
use Rattle.cabinet_text_grammar.specs.Due.{AdmitsHead}
use Rattle.cabinet_text_grammar.specs.Machine.{step}
use Rattle.cabinet_text_nodes.specs.View.{item_of}
use Rattle.cabinet_text_nodes.specs.declared.head.Head.TheVariants as head
use Rattle.cabinet_text_nodes.proofs.Views.{node_tree-bool, node_tree-int, node_tree-text, node_tree-shared, node_tree-none}
use Rattle.cabinet_text_reading.specs.View.{stack_of, state_of}
use Rattle.cabinet_text_reading.proofs.Taken.{on_err_all, plugged_whole}
use Rattle.cabinet_text_reading.proofs.stack.taking.take_head.Goals as goal

pub returns-in-Some-clause-next : goal.returns-in-Some-clause-next
returns-in-Some-clause-next c table around depth are admits = rw c.in-Some.is (c.open_option.ensures table)

pub returns-in-Some-clause-memory : goal.returns-in-Some-clause-memory
returns-in-Some-clause-memory c = rw c.in-Some.is (on_err_all c.open_option.result)

pub returns-in-List-clause-next : goal.returns-in-List-clause-next
returns-in-List-clause-next c table around depth are admits = rw c.in-List.is (c.open_list.ensures.next table around are)

pub returns-in-List-clause-memory : goal.returns-in-List-clause-memory
returns-in-List-clause-memory c = rw c.in-List.is c.open_list.ensures.memory

pub returns-in-Leaf-Bool-clause-next : goal.returns-in-Leaf-Bool-clause-next
returns-in-Leaf-Bool-clause-next c table around depth are admits =
    let next = rw (node_tree-bool table c.in-Leaf-Bool.value) at (c.put_in.ensures.next table around are) in
    rw (c.in-Leaf-Bool.is, c.in-Leaf-Bool.field-0-is) next

pub returns-in-Leaf-Int-clause-next : goal.returns-in-Leaf-Int-clause-next
returns-in-Leaf-Int-clause-next c table around depth are admits =
    let fits : FitsSigned w64 c.in-Leaf-Int.number = subst (λ h. AdmitsHead table depth (item_of h)) (c.in-Leaf-Int.is ∙ ap head.Leaf c.in-Leaf-Int.field-0-is) admits in
    let next = rw (to_z-of_z fits, node_tree-int table c.in-Leaf-Int.number) at (c.put_in-in-Leaf-Int.ensures.next table around are) in
    rw (c.in-Leaf-Int.is, c.in-Leaf-Int.field-0-is) next

pub returns-in-Leaf-Text-clause-next : goal.returns-in-Leaf-Text-clause-next
returns-in-Leaf-Text-clause-next c table around depth are admits =
    let next = rw (node_tree-text table c.in-Leaf-Text.text) at (c.put_in-in-Leaf-Text.ensures.next table around are) in
    rw (c.in-Leaf-Text.is, c.in-Leaf-Text.field-0-is) next

pub returns-in-Shared-clause-next : goal.returns-in-Shared-clause-next
returns-in-Shared-clause-next c table around depth are admits =
    let next = rw (node_tree-shared table c.in-Shared.text) at (c.put_in-in-Shared.ensures.next table around are) in
    rw c.in-Shared.is next

pub returns-in-None-clause-next : goal.returns-in-None-clause-next
returns-in-None-clause-next c table around depth are admits =
    let next = rw (node_tree-none table) at (c.put_in-in-None.ensures.next table around are) in
    rw c.in-None.is next

pub returns-in-Ordered-clause-next : goal.returns-in-Ordered-clause-next
returns-in-Ordered-clause-next c table around depth are admits = rw c.in-Ordered.is (c.open_map.ensures.next table around are)

pub returns-in-Hashed-clause-next : goal.returns-in-Hashed-clause-next
returns-in-Hashed-clause-next c table around depth are admits = rw c.in-Hashed.is (c.open_map-in-Hashed.ensures.next table around are)

pub returns-in-Kept-clause-next : goal.returns-in-Kept-clause-next
returns-in-Kept-clause-next c table around depth are admits = rw c.in-Kept.is (c.open_map-in-Kept.ensures.next table around are)

pub returns-in-Whole-clause-next : goal.returns-in-Whole-clause-next
returns-in-Whole-clause-next c table around depth are admits =
    let fs = stack_of table c.args.stack.now.items in
    let is_whole = subst (λ h. AdmitsHead table depth (item_of h)) c.in-Whole.is admits in
    subst
    (λ s. IfOk c.put_in-in-Whole.result (λ next. state_of table next c.put_in-in-Whole.new.stack.items ≡ s))
    (plugged_whole table depth c.in-Whole.number fs is_whole ∙ ap (λ h. step table fs (item_of h)) (sym c.in-Whole.is))
    (c.put_in-in-Whole.ensures.next table around are)

pub returns-in-Leaf-Bool-clause-memory : goal.returns-in-Leaf-Bool-clause-memory
returns-in-Leaf-Bool-clause-memory c = rw (c.in-Leaf-Bool.is, c.in-Leaf-Bool.field-0-is) c.put_in.ensures.memory

pub returns-in-Leaf-Int-clause-memory : goal.returns-in-Leaf-Int-clause-memory
returns-in-Leaf-Int-clause-memory c = rw (c.in-Leaf-Int.is, c.in-Leaf-Int.field-0-is) c.put_in-in-Leaf-Int.ensures.memory

pub returns-in-Leaf-Text-clause-memory : goal.returns-in-Leaf-Text-clause-memory
returns-in-Leaf-Text-clause-memory c = rw (c.in-Leaf-Text.is, c.in-Leaf-Text.field-0-is) (on_err_weaker c.put_in-in-Leaf-Text.result inr c.put_in-in-Leaf-Text.ensures.memory)

pub returns-in-Shared-clause-memory : goal.returns-in-Shared-clause-memory
returns-in-Shared-clause-memory c = rw c.in-Shared.is (on_err_all c.put_in-in-Shared.result)

pub returns-in-None-clause-memory : goal.returns-in-None-clause-memory
returns-in-None-clause-memory c = rw c.in-None.is c.put_in-in-None.ensures.memory

pub returns-in-Ordered-clause-memory : goal.returns-in-Ordered-clause-memory
returns-in-Ordered-clause-memory c = rw c.in-Ordered.is c.open_map.ensures.memory

pub returns-in-Hashed-clause-memory : goal.returns-in-Hashed-clause-memory
returns-in-Hashed-clause-memory c = rw c.in-Hashed.is c.open_map-in-Hashed.ensures.memory

pub returns-in-Kept-clause-memory : goal.returns-in-Kept-clause-memory
returns-in-Kept-clause-memory c = rw c.in-Kept.is c.open_map-in-Kept.ensures.memory

pub returns-in-Whole-clause-memory : goal.returns-in-Whole-clause-memory
returns-in-Whole-clause-memory c = rw c.in-Whole.is c.put_in-in-Whole.ensures.memory
