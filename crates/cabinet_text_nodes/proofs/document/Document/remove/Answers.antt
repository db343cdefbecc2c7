use Rattle.std.proofs.Common.{◌∷◌, subst}
use Rattle.cabinet_text_grammar.specs.Restructuring.{remove}
use Rattle.cabinet_text_nodes.specs.Restructures.{EditsNode}
use Rattle.cabinet_text_nodes.specs.View.{node_tree, table_of, entries_of, step_of, path_of}
use Rattle.cabinet_text_nodes.specs.declared.answer.EditAnswer.TheVariants.{Missing}
use Rattle.cabinet_text_nodes.specs.declared.restructuring.walking.Edit.TheVariants as edit
use Rattle.cabinet_text_nodes.proofs.RestructuresDocuments.{removes, remove_stays, answered}
use Rattle.cabinet_text_nodes.proofs.document.Document.remove.Goals as goal

pub invariant_of-self : goal.invariant_of-self
invariant_of-self c =
    let es = entries_of c.self.inside.wholes in
    let root = c.self.inside.root in
    let after = c.edit_at-answer.new.node in
    let step = step_of c.in-Some.step.now in
    let rest = path_of c.in-Some.rest.now in
    let edits = subst (λ ns. EditsNode ns 0 root after step rest edit.Remove c.edit_at-answer.result)
    c.entries.ensures c.edit_at-answer.ensures.edits in
    remove_stays es root after c.edit_at-answer.result c.self.invariant.0 c.self.invariant.1 step rest edits

pub returns : goal.returns
returns c =
    let es = entries_of c.self.inside.wholes in
    let root = c.self.inside.root in
    let after = c.edit_at-answer.new.node in
    let step = step_of c.in-Some.step.now in
    let rest = path_of c.in-Some.rest.now in
    let edits = subst (λ ns. EditsNode ns 0 root after step rest edit.Remove c.edit_at-answer.result)
    c.entries.ensures c.edit_at-answer.ensures.edits in
    rw (← c.self.view_is, c.in-Some.ensures.cases.0, c.unwrap_or.ensures)
    (answered (node_tree (table_of es) root) (node_tree (table_of es) after) (remove (node_tree (table_of es) root) (step ∷ rest))
    c.edit_at-answer.result Missing c.edit_at-answer.ensures.memory
    (removes es root after c.edit_at-answer.result c.self.invariant.0 c.self.invariant.1 step rest edits))
