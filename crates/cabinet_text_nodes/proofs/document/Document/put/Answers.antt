use Rattle.std.proofs.Common.{◌∷◌, subst}
use Rattle.cabinet_text_nodes.specs.Restructures.{EditsNode, CountsNode, ReplacesRoot}
use Rattle.cabinet_text_nodes.specs.View.{entries_of, step_of, path_of}
use Rattle.cabinet_text_nodes.specs.declared.restructuring.walking.Edit.TheVariants as edit
use Rattle.cabinet_text_nodes.proofs.Paths.{no_items}
use Rattle.cabinet_text_nodes.proofs.RestructuresDocuments.{puts, put_stays, replaces, replace_stays}
use Rattle.cabinet_text_nodes.proofs.RestructuresSteps.{are_texts}
use Rattle.cabinet_text_nodes.proofs.document.Document.put.Goals as goal

pub invariant_of-self : goal.invariant_of-self
invariant_of-self c =
    let es = entries_of c.self.inside.wholes in
    let root = c.self.inside.root in
    let after = c.edit_at.new.node in
    let step = step_of c.in-Some.step.now in
    let rest = path_of c.in-Some.rest.now in
    let edits = subst (λ ns. EditsNode ns 0 root after step rest (edit.Put c.args.alloc c.into_root-root.result) c.edit_at.result)
    c.entries-wholes.ensures c.edit_at.ensures.edits in
    let counts = subst (λ ns. CountsNode ns root after (edit.Put c.args.alloc c.into_root-root.result))
    c.entries-wholes.ensures c.edit_at.ensures.counted in
    put_stays es root after c.edit_at.result c.self.invariant.0 c.self.invariant.1 step rest
    c.args.new c.into_root-root.result c.into_root-root.ensures c.requires c.args.alloc
    (are_texts (c.in-Some.step.now ∷ c.in-Some.rest.now)) edits counts

pub returns-in-Some : goal.returns-in-Some
returns-in-Some c =
    let es = entries_of c.self.inside.wholes in
    let root = c.self.inside.root in
    let after = c.edit_at.new.node in
    let step = step_of c.in-Some.step.now in
    let rest = path_of c.in-Some.rest.now in
    let edits = subst (λ ns. EditsNode ns 0 root after step rest (edit.Put c.args.alloc c.into_root-root.result) c.edit_at.result)
    c.entries-wholes.ensures c.edit_at.ensures.edits in
    rw (← c.self.view_is, c.in-Some.ensures.cases.0)
    (puts es root after c.edit_at.result c.self.invariant.0 c.self.invariant.1 step rest
    c.args.new c.into_root-root.result c.into_root-root.ensures c.requires c.args.alloc edits)

pub invariant_of-self-in-None : goal.invariant_of-self-in-None
invariant_of-self-in-None c =
    let es = entries_of c.self.inside.wholes in
    let root = c.self.inside.root in
    let after = c.replace_root.new.root in
    let replaced = subst (λ ns. ReplacesRoot ns root after c.into_root-root.result c.replace_root.result)
    c.entries-wholes.ensures c.replace_root.ensures in
    replace_stays es root after c.replace_root.result c.self.invariant.0 c.self.invariant.1
    c.args.new c.into_root-root.result c.into_root-root.ensures c.requires replaced

pub returns-in-None : goal.returns-in-None
returns-in-None c =
    let es = entries_of c.self.inside.wholes in
    let root = c.self.inside.root in
    let after = c.replace_root.new.root in
    let replaced = subst (λ ns. ReplacesRoot ns root after c.into_root-root.result c.replace_root.result)
    c.entries-wholes.ensures c.replace_root.ensures in
    rw (← c.self.view_is, no_items c.args.path.now c.in-None.ensures.cases)
    (replaces es root after c.replace_root.result c.self.invariant.0 c.self.invariant.1
    c.args.new c.into_root-root.result c.into_root-root.ensures replaced)
