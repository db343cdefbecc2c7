use Rattle.std.proofs.Common.{◌≡◌, ◌+◌, sym, ◌∙◌, subst, arith, true, Some}
use Rattle.std.proofs.lemmas.Result.{err_from_is_err_and}
use Rattle.std.proofs.lemmas.Bool.{true≢false}
use Rattle.std.specs.Bool.{Decides}
use Rattle.cabinet_text_grammar.specs.Due.{Admits}
use Rattle.cabinet_text_grammar.specs.Tree.{Tree}
use Rattle.cabinet_text_grammar.specs.declared.cause.Cause.TheVariants.{OutOfMemory}
use Rattle.cabinet_text_grammar.specs.Fault.{HasDueCause, IsFirstCause}
use Rattle.cabinet_text_grammar.specs.Machine.{complete, step}
use Rattle.cabinet_text_grammar.specs.Reading.{around, due_at, reading, Suits}
use Rattle.cabinet_text_grammar.specs.Spelling.{spelled}
use Rattle.cabinet_text_nodes.specs.Faults.{AreDepths}
use Rattle.cabinet_text_nodes.specs.View.{item_of}
use Rattle.cabinet_text_reading.specs.Causes.{IsFirstOf}
use Rattle.cabinet_text_reading.specs.View.{stack_of}
use Rattle.cabinet_text_reading.specs.Wholes.{table_in, reading_of, IsAtLine}
use Rattle.cabinet_text_reading.proofs.Loop.{AtHead, at_head, due_here, admitted_here, here_for, tree_refused, suits_open, suits_tree, head_taken}
use Rattle.cabinet_text_reading.proofs.Heads.{taken_first}
use Rattle.cabinet_text_reading.proofs.Lifted.{lift_memory}
use Rattle.cabinet_text_reading.proofs.Taken.{takes_inside}
use Rattle.cabinet_text_reading.proofs.text.take_head_line.Goals as goal
use Rattle.cabinet_text_reading.proofs.text.take_head_line.Goals.{then-completes+in_ok-check_tree, else-completes}

pub returns-in-Err-clause-fault : goal.returns-in-Err-clause-fault
returns-in-Err-clause-fault c at =
    let w = c.args.wholes.now in
    let fs = stack_of (table_in w) c.args.stack.now.items in
    let r = reading_of w fs in
    let d = c.len.result + c.around.result in
    let here = at_head w c.args.stack.now c.len.result c.around.result c.args.line.now c.args.lines.now c.len.ensures c.around.ensures at in
    let depths = subst (AreDepths (table_in w)) (sym c.as_slice.ensures.value) at.known.depths in
    let first = due_here here c.in-Err.cause (c.in-Err.ensures.fault (table_in w) depths at.reading.table) in
    let same = c.as_slice-in-Err.ensures.value in
    subst (λ xs. IsFirstCause (reading (reading_of w (stack_of (table_in w) xs))) (Some (record { bytes = c.args.line.now; ended = true })) c.fault_of_head.result) same
    (c.fault_of_head.ensures c.args.line.now (subst (λ xs. IsAtLine w (stack_of (table_in w) xs) c.args.line.now c.args.lines.now) (sym same) at)
    (subst (λ xs. IsFirstOf (HasDueCause (due_at (reading_of w (stack_of (table_in w) xs))) (Some (record { bytes = c.args.line.now; ended = true }))) c.in-Err.cause) (sym same) first) c.in-Err.ensures.memory)

pub returns-in_err-check_tree-clause-fault : goal.returns-in_err-check_tree-clause-fault
returns-in_err-check_tree-clause-fault c at =
    let w = c.args.wholes.now in
    let fs = stack_of (table_in w) c.args.stack.now.items in
    let r = reading_of w fs in
    let d = c.len.result + c.around.result in
    let here = at_head w c.args.stack.now c.len.result c.around.result c.args.line.now c.args.lines.now c.len.ensures c.around.ensures at in
    let depths = subst (AreDepths (table_in w)) (sym c.as_slice.ensures.value) at.known.depths in
    let i = item_of c.in-Ok.head in
    let head = c.in-Ok.ensures.head (table_in w) depths in
    let line = c.in-Ok.ensures.line in
    let admitted = admitted_here here i head in
    let told = subst (λ xs. Decides c.completes.result ((t : Tree) × (step (table_in w) (stack_of (table_in w) xs) i ≡ complete t))) c.as_slice-2.ensures.value (c.completes.ensures (table_in w) d head) in
    let done = told.0 c.if-completes.true in
    let refused =
    c.in_err-check_tree.ensures i done.0 c.whole_number.ensures
    (subst (λ xs. IsAtLine w (stack_of (table_in w) xs) (spelled i) c.args.lines.now) (sym c.as_slice-then-completes.ensures.value) (here_for here i line))
    (subst (λ xs. Admits (due_at (reading_of w (stack_of (table_in w) xs))) i) (sym c.as_slice-then-completes.ensures.value) admitted)
    (subst (λ xs. step (table_in w) (stack_of (table_in w) xs) i ≡ complete done.0) (sym c.as_slice-then-completes.ensures.value) done.1) in
    let p = err_from_is_err_and c.from_residual.result c.from_residual.ensures.1 in
    rw (p.1, p.2) (subst (λ l. IsFirstCause (reading r) (Some (record { bytes = l; ended = true })) c.in_err-check_tree.field-0.0) (sym line) (tree_refused r i done.0 c.in_err-check_tree.field-0.0 admitted done.1 refused.1))

pub returns-in-Ok-take_head-clause-taken : goal.returns-in-Ok-take_head-clause-taken
returns-in-Ok-take_head-clause-taken c at =
    let w = c.args.wholes.now in
    let fs = stack_of (table_in w) c.args.stack.now.items in
    let r = reading_of w fs in
    let d = c.len.result + c.around.result in
    let here = at_head w c.args.stack.now c.len.result c.around.result c.args.line.now c.args.lines.now c.len.ensures c.around.ensures at in
    let depths = subst (AreDepths (table_in w)) (sym c.as_slice.ensures.value) at.known.depths in
    let i = item_of c.in-Ok.head in
    let head = c.in-Ok.ensures.head (table_in w) depths in
    let line = c.in-Ok.ensures.line in
    let admitted = admitted_here here i head in
    let told = subst (λ xs. Decides c.completes.result ((t : Tree) × (step (table_in w) (stack_of (table_in w) xs) i ≡ complete t))) c.as_slice-2.ensures.value (c.completes.ensures (table_in w) d head) in
    let suits : Suits r (step (table_in w) fs i) = elim c.if-completes.branch [
      | then-completes+in_ok-check_tree x ↦
          let done = told.0 x.if-completes.true in
          let checked =
          x.in_ok-check_tree.ensures i done.0 x.whole_number.ensures
          (subst (λ xs. IsAtLine w (stack_of (table_in w) xs) (spelled i) c.args.lines.now) (sym x.as_slice-then-completes.ensures.value) (here_for here i line))
          (subst (λ xs. Admits (due_at (reading_of w (stack_of (table_in w) xs))) i) (sym x.as_slice-then-completes.ensures.value) admitted)
          (subst (λ xs. step (table_in w) (stack_of (table_in w) xs) i ≡ complete done.0) (sym x.as_slice-then-completes.ensures.value) done.1) in
          suits_tree r (step (table_in w) fs i) done.0 done.1 checked.0
      | else-completes x ↦ suits_open r (step (table_in w) fs i) (λ t is. absurd (true≢false (sym (told.1 (t, is)) ∙ x.if-completes.false)))
    ] in
    head_taken r i (table_in w) d c.args.line.now _ admitted head line suits (c.in-Ok-take_head.ensures.next (table_in w) (around w.lacking) d at.reading.stack head)

pub returns-in-Err-take_head-clause-fault : goal.returns-in-Err-take_head-clause-fault
returns-in-Err-take_head-clause-fault c at =
    let w = c.args.wholes.now in
    let fs = stack_of (table_in w) c.args.stack.now.items in
    let r = reading_of w fs in
    let d = c.len.result + c.around.result in
    let here = at_head w c.args.stack.now c.len.result c.around.result c.args.line.now c.args.lines.now c.len.ensures c.around.ensures at in
    let depths = subst (AreDepths (table_in w)) (sym c.as_slice.ensures.value) at.known.depths in
    let i = item_of c.in-Ok.head in
    let head = c.in-Ok.ensures.head (table_in w) depths in
    let line = c.in-Ok.ensures.line in
    let admitted = admitted_here here i head in
    let told = subst (λ xs. Decides c.completes.result ((t : Tree) × (step (table_in w) (stack_of (table_in w) xs) i ≡ complete t))) c.as_slice-2.ensures.value (c.completes.ensures (table_in w) d head) in
    let suits : Suits r (step (table_in w) fs i) = elim c.if-completes.branch [
      | then-completes+in_ok-check_tree x ↦
          let done = told.0 x.if-completes.true in
          let checked =
          x.in_ok-check_tree.ensures i done.0 x.whole_number.ensures
          (subst (λ xs. IsAtLine w (stack_of (table_in w) xs) (spelled i) c.args.lines.now) (sym x.as_slice-then-completes.ensures.value) (here_for here i line))
          (subst (λ xs. Admits (due_at (reading_of w (stack_of (table_in w) xs))) i) (sym x.as_slice-then-completes.ensures.value) admitted)
          (subst (λ xs. step (table_in w) (stack_of (table_in w) xs) i ≡ complete done.0) (sym x.as_slice-then-completes.ensures.value) done.1) in
          suits_tree r (step (table_in w) fs i) done.0 done.1 checked.0
      | else-completes x ↦ suits_open r (step (table_in w) fs i) (λ t is. absurd (true≢false (sym (told.1 (t, is)) ∙ x.if-completes.false)))
    ] in
    let takes = takes_inside _ d i (omega (arith, c.len.ensures)) c.in-Err-take_head.ensures.memory in
    let memory = (due_here (subst (λ l. AtHead w c.args.stack.now d l c.args.lines.now) line here) OutOfMemory (taken_first (table_in w) d i head takes)).has_cause in
    subst (λ l. IsFirstCause (reading r) (Some (record { bytes = l; ended = true })) OutOfMemory) (sym line) (lift_memory r i admitted suits memory)
