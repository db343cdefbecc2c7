use Rattle.std.proofs.Common.{◌≡◌, [], ◌++◌, IfOk, IfErr, append-nil, ap, sym, ◌∙◌, subst}
use Rattle.cabinet_text_grammar.specs.Fault.{FirstFault}
use Rattle.cabinet_text_grammar.specs.Spelling.{text_of}
use Rattle.cabinet_text_grammar.proofs.FirstCauses.{at_end}
use Rattle.cabinet_text_grammar.proofs.Steps.{fault_after}
use Rattle.cabinet_text_nodes.specs.View.{node_tree, table_of}
use Rattle.cabinet_text_reading.specs.Wholes.{table_in}
use Rattle.cabinet_text_reading.proofs.Causes.{due_first}
use Rattle.cabinet_text_reading.proofs.ReadTo.{and_ok, and_err}
use Rattle.cabinet_text_reading.proofs.text.end_document.Goals as goal

pub returns-clause-document : goal.returns-clause-document
returns-clause-document c =
    let t = node_tree (table_in c.args.wholes) c.args.root in
    let told = c.of_parts-document.ensures ∙ ap (λ ns. node_tree (table_of ns) c.args.root) c.some_nodes.ensures in
    subst (λ r. IfOk r (λ document. text_of t ++ c.args.rest ≡ text_of document)) (sym c.and.ensures)
    (and_ok c.check_end.result c.of_parts-document.result (λ document. text_of t ++ c.args.rest ≡ text_of document) (c.args.rest ≡ []) c.check_end.ensures.end
    (λ none. ap (λ l. text_of t ++ l) none ∙ append-nil (text_of t) ∙ ap text_of (sym told)))

pub returns-clause-fault : goal.returns-clause-fault
returns-clause-fault c =
    let t = node_tree (table_in c.args.wholes) c.args.root in
    subst (λ r. IfErr r (λ refusal. FirstFault (text_of t ++ c.args.rest) refusal.line refusal.cause)) (sym c.and.ensures)
    (and_err c.check_end.result c.of_parts-document.result _ _ _ c.check_end.ensures.line c.check_end.ensures.fault
    (λ refusal line first. fault_after t c.args.rest refusal.line refusal.cause c.requires.document (line ∙ c.requires.line) (at_end _ _ _ _ (due_first first))))
