use Rattle.std.proofs.Common.{◌<◌, ◌^◌, ◌∙◌, length, sym, subst, arith, None, Some}
use Rattle.std.proofs.lemmas.Bool.{true≢false}
use Rattle.cabinet_text_nodes.specs.Faults.{TableFault}
use Rattle.cabinet_text_nodes.specs.Calls.{TellsOrder}
use Rattle.cabinet_text_nodes.proofs.TableFaults.{refused, no_fault, is_document, TellsRepeats}
use Rattle.cabinet_text_nodes.proofs.table.refusal_of.Goals as goal

pub returns-in-Ok-Some : goal.returns-in-Ok-Some
returns-in-Ok-Some c =
    let root = c.args.root.now in
    refused c.args.wholes.now.items root c.in-Ok-Some.fault (subst (λ ns. TableFault ns root (Some c.in-Ok-Some.fault)) c.as_slice.ensures.value (subst (TableFault c.as_slice.result.now root) c.in-Ok-Some.field-0-is c.in-Ok-Some.ensures.fault))

pub returns-in-Ok-false : goal.returns-in-Ok-false
returns-in-Ok-false c =
    let ns = c.args.wholes.now.items in
    let root = c.args.root.now in
    let few : length ns < 2 ^ 64 = omega (arith, c.args.wholes.now.ok) in
    let told = subst (λ ms. TableFault ms root None) c.as_slice.ensures.value (subst (TableFault c.as_slice.result.now root) c.in-Ok-None.field-0-is c.in-Ok-None.ensures.fault) in
    let p = no_fault ns root told in
    let table = subst (TellsRepeats ns) c.in-Ok-false.field-0-test (subst (λ ms. TellsRepeats ms c.in-Ok-false.field-0) c.as_slice-2.ensures.value c.in-Ok-false.ensures.repeats) p.0 p.1 in
    let order = (subst (λ ms. TellsOrder ms root c.are_in_order.result) c.as_slice-else-repeats_whole.ensures.value c.are_in_order.ensures table p.2).0 c.if-are_in_order.true in
    (is_document ns root few told order, order)

pub returns-in-Ok-false-2 : goal.returns-in-Ok-false-2
returns-in-Ok-false-2 c =
    let ns = c.args.wholes.now.items in
    let root = c.args.root.now in
    let told = subst (λ ms. TableFault ms root None) c.as_slice.ensures.value (subst (TableFault c.as_slice.result.now root) c.in-Ok-None.field-0-is c.in-Ok-None.ensures.fault) in
    let p = no_fault ns root told in
    let table = subst (TellsRepeats ns) c.in-Ok-false.field-0-test (subst (λ ms. TellsRepeats ms c.in-Ok-false.field-0) c.as_slice-2.ensures.value c.in-Ok-false.ensures.repeats) p.0 p.1 in
    let order = subst (λ ms. TellsOrder ms root c.are_in_order.result) c.as_slice-else-repeats_whole.ensures.value c.are_in_order.ensures table p.2 in
    (told, table, λ same. true≢false (sym (order.1 same) ∙ c.if-are_in_order.false))

pub returns-in-Ok-true : goal.returns-in-Ok-true
returns-in-Ok-true c =
    let ns = c.args.wholes.now.items in
    let root = c.args.root.now in
    let told = subst (λ ms. TableFault ms root None) c.as_slice.ensures.value (subst (TableFault c.as_slice.result.now root) c.in-Ok-None.field-0-is c.in-Ok-None.ensures.fault) in
    let p = no_fault ns root told in
    (told, subst (TellsRepeats ns) c.in-Ok-true.field-0-test (subst (λ ms. TellsRepeats ms c.in-Ok-true.field-0) c.as_slice-2.ensures.value c.in-Ok-true.ensures.repeats) p.0 p.1)
