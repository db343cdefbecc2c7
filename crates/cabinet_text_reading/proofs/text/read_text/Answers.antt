use Rattle.std.proofs.Common.{◌≡◌, IfOk, IfErr, sym, subst}
use Rattle.std.proofs.lemmas.Result.{err_from_is_err_and}
use Rattle.cabinet_text_grammar.specs.Fault.{FirstFault}
use Rattle.cabinet_text_grammar.specs.Spelling.{text_of}
use Rattle.cabinet_text_reading.proofs.text.read_text.Goals as goal

pub returns-in_err-count-clause-fault : goal.returns-in_err-count-clause-fault
returns-in_err-count-clause-fault c =
    let p = err_from_is_err_and c.from_residual.result c.from_residual.ensures.1 in
    rw (p.1, p.2) c.in_err-count.ensures.fault

pub read_trees-requires-clause-none : goal.read_trees-requires-clause-none
read_trees-requires-clause-none c = c.in_ok-count.ensures.none

pub read_trees-requires-clause-some : goal.read_trees-requires-clause-some
read_trees-requires-clause-some c = c.in_ok-count.ensures.some

pub read_trees-requires-clause-reading : goal.read_trees-requires-clause-reading
read_trees-requires-clause-reading c = c.new-wholes.ensures.reading

pub read_trees-requires-clause-known : goal.read_trees-requires-clause-known
read_trees-requires-clause-known c = c.new-wholes.ensures.known

pub read_trees-requires-clause-stack : goal.read_trees-requires-clause-stack
read_trees-requires-clause-stack c = c.new-stack.ensures.items

pub end_document-requires-clause-document : goal.end_document-requires-clause-document
end_document-requires-clause-document c = c.in-Ok.ensures.document

pub end_document-requires-clause-wholes : goal.end_document-requires-clause-wholes
end_document-requires-clause-wholes c = c.in-Ok.ensures.wholes

pub end_document-requires-clause-line : goal.end_document-requires-clause-line
end_document-requires-clause-line c = c.in-Ok.ensures.line

pub returns-in-Ok-clause-document : goal.returns-in-Ok-clause-document
returns-in-Ok-clause-document c = subst (λ t. IfOk c.end_document.result (λ document. t ≡ text_of document)) (sym c.in-Ok.ensures.text) c.end_document.ensures.document

pub returns-in-Ok-clause-fault : goal.returns-in-Ok-clause-fault
returns-in-Ok-clause-fault c = subst (λ t. IfErr c.end_document.result (λ refusal. FirstFault t refusal.line refusal.cause)) (sym c.in-Ok.ensures.text) c.end_document.ensures.fault

pub returns-in-Err-clause-fault : goal.returns-in-Err-clause-fault
returns-in-Err-clause-fault c = c.in-Err.ensures.fault
