use Rattle.std.proofs.Common.{sym, subst, Some, true}
use Rattle.cabinet_text_grammar.specs.Fault.{HasDueCause, IsFirstCause}
use Rattle.cabinet_text_grammar.specs.Reading.{due_at, reading}
use Rattle.cabinet_text_grammar.specs.declared.cause.Cause.TheVariants.{OutOfMemory}
use Rattle.cabinet_text_grammar.proofs.Completed.{something_due}
use Rattle.cabinet_text_reading.specs.View.{stack_of}
use Rattle.cabinet_text_reading.specs.Wholes.{table_in, reading_of, IsAtLine}
use Rattle.cabinet_text_reading.proofs.Lifted.{lift_other}
use Rattle.cabinet_text_reading.proofs.text.fault_of_head.Goals as goal

pub returns-in-OutOfMemory : goal.returns-in-OutOfMemory
returns-in-OutOfMemory c line at first memory =
    let w = c.args.wholes.now in
    let fs = stack_of (table_in w) c.args.stack.now in
    let r = reading_of w fs in
    let told = memory c.in-OutOfMemory.is in
    let has = subst (HasDueCause (due_at r) (Some (record { bytes = line; ended = true }))) c.in-OutOfMemory.is first.has_cause in
    subst (λ l. IsFirstCause (reading r) (Some (record { bytes = l; ended = true })) c.fault_of_text.result) (sym told.2)
    (c.fault_of_text.ensures told.0 told.1 (subst (λ l. IsAtLine w fs l c.args.lines.now) told.2 at)
    (subst (λ l. HasDueCause (due_at r) (Some (record { bytes = l; ended = true })) OutOfMemory) told.2 has))

pub returns-in_default : goal.returns-in_default
returns-in_default c line at first memory =
    let r = reading_of c.args.wholes.now (stack_of (table_in c.args.wholes.now) c.args.stack.now) in
    lift_other r (Some (record { bytes = line; ended = true })) c.args.cause (something_due r) c.in_default.not-OutOfMemory first
