use Rattle.std.proofs.Common.{◌≡◌, subst, sym, ap, ◌∙◌}
use Rattle.cabinet_text_grammar.specs.Tree.{IsLeaf, IsLegal}
use Rattle.cabinet_text_grammar.specs.Wholes.{wholes_of, IsTable, IsDocument}
use Rattle.cabinet_text_grammar.specs.Answering.{answer, change}
use Rattle.cabinet_text_grammar.specs.Line.{set}
use Rattle.cabinet_text_grammar.proofs.Tables.{document_table}
use Rattle.cabinet_text_nodes.specs.Outcomes.{outcome_of}
use Rattle.cabinet_text_grammar.proofs.Changes.{change_keeps_document, change_keeps_wholes}
use Rattle.cabinet_text_nodes.specs.View.{node_tree, table_of, entries_of, lent_leaf, path_of}
use Rattle.cabinet_text_nodes.proofs.document.Document.change.Goals as goal

pub invariant_of-self : goal.invariant_of-self
invariant_of-self c =
    let old = node_tree (table_of (entries_of c.self.inside.wholes)) c.self.inside.root in
    let table = subst (λ ns. IsTable (table_of ns)) (sym c.entries.ensures) (subst IsTable c.self.invariant.1 (document_table old c.self.invariant.0)) in
    let legal = subst (λ ns. IsLegal (node_tree (table_of ns) c.self.inside.root)) (sym c.entries.ensures) c.self.invariant.0.0 in
    let sets_here = c.change_at.ensures table legal in
    let path = path_of c.args.path.now in
    let new = lent_leaf c.as_ref.result in
    let leaf = subst IsLeaf (sym c.as_ref.ensures.value) c.as_ref.ensures.leaf in
    let left =
    subst (λ ns. node_tree (table_of ns) c.change_at.new.node ≡ change (node_tree (table_of ns) c.self.inside.root) path new) c.entries.ensures sets_here.left in (
      subst IsDocument (sym left) (change_keeps_document old path new c.self.invariant.0 leaf),
      ap wholes_of left ∙ change_keeps_wholes old path new c.self.invariant.0.0 leaf ∙ c.self.invariant.1,
    )

pub returns-clause-answer : goal.returns-clause-answer
returns-clause-answer c =
    let old = node_tree (table_of (entries_of c.self.inside.wholes)) c.self.inside.root in
    let table = subst (λ ns. IsTable (table_of ns)) (sym c.entries.ensures) (subst IsTable c.self.invariant.1 (document_table old c.self.invariant.0)) in
    let legal = subst (λ ns. IsLegal (node_tree (table_of ns) c.self.inside.root)) (sym c.entries.ensures) c.self.invariant.0.0 in
    let sets_here = c.change_at.ensures table legal in
    let answered = subst (λ ns. outcome_of c.change_at.result ≡ answer (node_tree (table_of ns) c.self.inside.root) (set (path_of c.args.path.now) (lent_leaf c.as_ref.result))) c.entries.ensures sets_here.answered in
    rw (← c.self.view_is) (subst (λ l. outcome_of c.change_at.result ≡ answer (node_tree (table_of (entries_of c.self.inside.wholes)) c.self.inside.root) (set (path_of c.args.path.now) l)) c.as_ref.ensures.value answered)

pub returns-clause-document : goal.returns-clause-document
returns-clause-document c =
    let old = node_tree (table_of (entries_of c.self.inside.wholes)) c.self.inside.root in
    let table = subst (λ ns. IsTable (table_of ns)) (sym c.entries.ensures) (subst IsTable c.self.invariant.1 (document_table old c.self.invariant.0)) in
    let legal = subst (λ ns. IsLegal (node_tree (table_of ns) c.self.inside.root)) (sym c.entries.ensures) c.self.invariant.0.0 in
    let sets_here = c.change_at.ensures table legal in
    let left = subst (λ ns. node_tree (table_of ns) c.change_at.new.node ≡ change (node_tree (table_of ns) c.self.inside.root) (path_of c.args.path.now) (lent_leaf c.as_ref.result)) c.entries.ensures sets_here.left in
    rw (← c.self.view_is) (subst (λ l. node_tree (table_of (entries_of c.self.inside.wholes)) c.change_at.new.node ≡ change (node_tree (table_of (entries_of c.self.inside.wholes)) c.self.inside.root) (path_of c.args.path.now) l) c.as_ref.ensures.value left)
