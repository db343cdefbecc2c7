use Rattle.std.proofs.Common.{subst}
use Rattle.cabinet_text_nodes.specs.Restructures.{EditsNode, CountsNode}
use Rattle.cabinet_text_nodes.specs.View.{entries_of, step_of, path_of}
use Rattle.cabinet_text_nodes.specs.declared.restructuring.walking.Edit.TheVariants as edit
use Rattle.cabinet_text_nodes.proofs.RestructuresDocuments.{inserts, insert_stays}
use Rattle.cabinet_text_nodes.proofs.document.Document.insert.Goals as goal

pub invariant_of-self : goal.invariant_of-self
invariant_of-self c =
    let es = entries_of c.self.inside.wholes in
    let root = c.self.inside.root in
    let after = c.edit_at.new.node in
    let step = step_of c.in-Some.step.now in
    let rest = path_of c.in-Some.rest.now in
    let edits = subst (λ ns. EditsNode ns 0 root after step rest (edit.Insert c.into_root-root.result) c.edit_at.result)
    c.entries.ensures c.edit_at.ensures.edits in
    let counts = subst (λ ns. CountsNode ns root after (edit.Insert c.into_root-root.result))
    c.entries.ensures c.edit_at.ensures.counted in
    insert_stays es root after c.edit_at.result c.self.invariant.0 c.self.invariant.1 step rest
    c.args.new c.into_root-root.result c.into_root-root.ensures c.requires edits counts

pub returns : goal.returns
returns c =
    let es = entries_of c.self.inside.wholes in
    let root = c.self.inside.root in
    let after = c.edit_at.new.node in
    let step = step_of c.in-Some.step.now in
    let rest = path_of c.in-Some.rest.now in
    let edits = subst (λ ns. EditsNode ns 0 root after step rest (edit.Insert c.into_root-root.result) c.edit_at.result)
    c.entries.ensures c.edit_at.ensures.edits in
    rw (← c.self.view_is, c.in-Some.ensures.cases.0)
    (inserts es root after c.edit_at.result c.self.invariant.0 c.self.invariant.1 step rest
    c.args.new c.into_root-root.result c.into_root-root.ensures c.requires edits)
