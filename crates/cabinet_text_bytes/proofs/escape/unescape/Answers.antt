use Rattle.std.proofs.Common.{◌≡◌, ◌≢◌, ◌<◌, [], ◌++◌, length, refl, sym, ap, ◌∙◌, arith, length-append}
use Rattle.std.proofs.lemmas.Bool.Decides.{nat_tests}
use Rattle.std.proofs.lemmas.Result.{err_from_is_err_and}
use Rattle.cabinet_text_grammar.proofs.Escapes.{one_more, none_more, shorter, form_of}
use Rattle.cabinet_text_bytes.proofs.Plain.{own_form, run_read, last_read, none_left, some_left}
use Rattle.cabinet_text_bytes.proofs.escape.unescape.Goals as goal

pub loop-text-init : goal.loop-text-init
loop-text-init c = rw c.in_ok-text.ensures.items refl

pub returns-in_err-text-clause-memory : goal.returns-in_err-text-clause-memory
returns-in_err-text-clause-memory c =
    let p = err_from_is_err_and c.from_residual.result c.from_residual.ensures.1 in
    let some : c.args.argument.now ≢ [] = λ none. cc (c.in_err-text.ensures.succeeds (ap length none)) in
    rw p.1 some

pub returns-then-is_plain-clause-text : goal.returns-then-is_plain-clause-text
returns-then-is_plain-clause-text c =
    rw c.in_ok-extend_from_slice.ensures.items
    (rw c.in_ok-text.ensures.items (own_form c.args.argument.now (sym c.is_plain.ensures ∙ c.if-is_plain.true)))

pub returns-in_err-extend_from_slice-clause-memory : goal.returns-in_err-extend_from_slice-clause-memory
returns-in_err-extend_from_slice-clause-memory c =
    let failed = c.from_residual-in_err-extend_from_slice in
    let p = err_from_is_err_and failed.result failed.ensures.1 in
    let some : c.args.argument.now ≢ [] = λ none.
    omega (arith, ap length none, c.in_err-extend_from_slice.ensures.full, c.in_ok-text.text.ok.1) in
    rw p.1 some

pub returns-in_err-extend_from_slice-2-clause-memory : goal.returns-in_err-extend_from_slice-2-clause-memory
returns-in_err-extend_from_slice-2-clause-memory c =
    let failed = c.from_residual-in_err-extend_from_slice-2 in
    let p = err_from_is_err_and failed.result failed.ensures.1 in
    let text = c.loop-text.text in
    let some : c.args.argument.now ≢ [] = λ none.
    omega (arith, none_left c.args.argument.now text.items c.loop-text.rest.now c.loop-text.invariant none, ap length c.split_plain.ensures.whole, length-append c.split_plain.result.0.now c.split_plain.result.1.now, c.in_err-extend_from_slice-2.ensures.full, text.ok.1) in
    rw p.1 some

pub returns-then-is_empty-clause-text : goal.returns-then-is_empty-clause-text
returns-then-is_empty-clause-text c =
    let none : length c.split_plain.result.1.now ≡ 0 = grind (arith, nat_tests) in
    rw c.in_ok-extend_from_slice-2.ensures.items
    (last_read c.args.argument.now (c.loop-text.text.items ++ c.split_plain.result.0.now) c.split_plain.result.1.now (run_read c.args.argument.now c.loop-text.text.items c.loop-text.rest.now c.split_plain.result.0.now c.split_plain.result.1.now c.loop-text.invariant c.split_plain.ensures.whole c.split_plain.ensures.plain) none)

pub returns-in_default-clause-text : goal.returns-in_default-clause-text
returns-in_default-clause-text c =
    let more : 0 < length c.split_plain.result.1.now = grind (arith, nat_tests) in
    none_more c.args.argument.now (c.loop-text.text.items ++ c.split_plain.result.0.now) c.split_plain.result.1.now (run_read c.args.argument.now c.loop-text.text.items c.loop-text.rest.now c.split_plain.result.0.now c.split_plain.result.1.now c.loop-text.invariant c.split_plain.ensures.whole c.split_plain.ensures.plain) c.in_default.ensures more

pub returns-in_err-push-clause-memory : goal.returns-in_err-push-clause-memory
returns-in_err-push-clause-memory c =
    let p = err_from_is_err_and c.from_residual-in_err-push.result c.from_residual-in_err-push.ensures.1 in
    rw p.1 (some_left c.args.argument.now (c.loop-text.text.items ++ c.split_plain.result.0.now) c.split_plain.result.1.now c.in-Some.after.now c.in-Some.byte (run_read c.args.argument.now c.loop-text.text.items c.loop-text.rest.now c.split_plain.result.0.now c.split_plain.result.1.now c.loop-text.invariant c.split_plain.ensures.whole c.split_plain.ensures.plain) c.in-Some.ensures)

pub loop-text-smaller : goal.loop-text-smaller
loop-text-smaller c =
    omega (arith, shorter c.in-Some.byte _ c.split_plain.result.1.now c.in-Some.after.now (form_of c.in-Some.byte) c.in-Some.ensures, ap length c.split_plain.ensures.whole, length-append c.split_plain.result.0.now c.split_plain.result.1.now)

pub loop-text-preserved : goal.loop-text-preserved
loop-text-preserved c =
    rw (c.in_ok-push.ensures.items, c.in_ok-extend_from_slice-2.ensures.items)
    (one_more c.args.argument.now (c.loop-text.text.items ++ c.split_plain.result.0.now) c.split_plain.result.1.now c.in-Some.after.now c.in-Some.byte (run_read c.args.argument.now c.loop-text.text.items c.loop-text.rest.now c.split_plain.result.0.now c.split_plain.result.1.now c.loop-text.invariant c.split_plain.ensures.whole c.split_plain.ensures.plain) c.in-Some.ensures)
