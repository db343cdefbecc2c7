use Rattle.std.proofs.Common.{[], ◌++◌, codes, sym, subst, Some, true}
use Rattle.std.proofs.lemmas.Result.{err_from_is_err_and, IfOk-weaker, IfErr-weaker}
use Rattle.cabinet_text_grammar.specs.Fault.{IsFirstCause}
use Rattle.cabinet_text_grammar.specs.Frame.{keys_after}
use Rattle.cabinet_text_grammar.specs.Reading.{reading}
use Rattle.cabinet_text_nodes.specs.View.{node_pairs}
use Rattle.cabinet_text_reading.specs.View.{kind_of, entries_of, stack_of, inside_map}
use Rattle.cabinet_text_reading.specs.Wholes.{table_in, reading_of}
use Rattle.cabinet_text_reading.proofs.Loop.{key_first, key_taken}
use Rattle.cabinet_text_reading.proofs.text.take_key_line.Goals as goal

pub returns-in_err-argument-clause-fault : goal.returns-in_err-argument-clause-fault
returns-in_err-argument-clause-fault c =
    let p = err_from_is_err_and c.from_residual.result c.from_residual.ensures.1 in
    let pairs = c.args.map.pairs in
    rw (p.1, p.2)
    (key_first c.args.wholes.now c.args.map c.args.stack.now.items (record { bytes = c.args.line.now; ended = true }) c.in_err-argument.field-0.0
    (c.in_err-argument.ensures.fault (kind_of pairs) (keys_after [] (node_pairs [] (entries_of pairs)))))

pub returns-clause-taken : goal.returns-clause-taken
returns-clause-taken c =
    let w = c.args.wholes.now in
    IfOk-weaker c.take_key.result _ _
    (λ x taken. key_taken w c.args.map c.args.stack.now.items taken.0 c.args.line.now c.in_ok-argument.argument.now (stack_of (table_in w) c.take_key.new.stack.items) taken.2 c.in_ok-argument.ensures.line taken.1 (taken.3 (table_in w)))
    c.take_key.ensures.taken

pub returns-clause-fault : goal.returns-clause-fault
returns-clause-fault c =
    let w = c.args.wholes.now in
    let r = reading_of w (inside_map (table_in w) c.args.map c.args.stack.now.items) in
    IfErr-weaker c.take_key.result _ _
    (λ cause first. subst (λ l. IsFirstCause (reading r) (Some (record { bytes = l; ended = true })) cause) (sym c.in_ok-argument.ensures.line)
    (key_first w c.args.map c.args.stack.now.items (record { bytes = codes "'" ++ c.in_ok-argument.argument.now; ended = true }) cause first))
    c.take_key.ensures.fault
