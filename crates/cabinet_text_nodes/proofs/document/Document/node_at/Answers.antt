use Rattle.std.proofs.Common.{◌≡◌, subst, sym, ap, ◌∙◌}
use Rattle.std.specs.Option.{option_map}
use Rattle.cabinet_text_grammar.specs.Path as grammar
use Rattle.cabinet_text_grammar.specs.Tree.{IsLegal}
use Rattle.cabinet_text_grammar.specs.Wholes.{wholes_of, IsTable}
use Rattle.cabinet_text_grammar.proofs.Tables.{document_table}
use Rattle.cabinet_text_nodes.specs.View.{node_tree, table_of, entries_of, path_of}
use Rattle.cabinet_text_nodes.proofs.document.Document.node_at.Goals as goal

pub returns : goal.returns
returns c =
    let t = node_tree (table_of (entries_of c.self.inside.wholes)) c.self.inside.root in
    let same = subst (λ t. table_of c.wholes.result.now ≡ wholes_of t) (sym c.self.view_is) c.wholes.ensures in
    let table = subst IsTable (sym same) (document_table t c.self.invariant.0) in
    let legal = subst (λ w. IsLegal (node_tree w c.self.inside.root)) (sym (same ∙ c.self.invariant.1)) c.self.invariant.0.0 in
    rw (← c.self.view_is)
    (subst (λ w. option_map (λ node. node_tree w node.now) c.node_at.result ≡ grammar.node_at t (path_of c.args.path.now)) same
    (c.node_at.ensures table legal ∙ ap (λ w. grammar.node_at (node_tree w c.self.inside.root) (path_of c.args.path.now)) (same ∙ c.self.invariant.1)))
