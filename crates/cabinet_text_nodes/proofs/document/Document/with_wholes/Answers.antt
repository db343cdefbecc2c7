use Rattle.std.proofs.Common.{◌≡◌, ap, sym, subst, ◌∙◌, length, arith}
use Rattle.std.proofs.lemmas.Bool.Decides.{nat_tests}
use Rattle.cabinet_text_grammar.specs.Wholes.{wholes_of, IsDocument}
use Rattle.cabinet_text_nodes.specs.View.{node_tree, table_of}
use Rattle.cabinet_text_nodes.proofs.Paths.{no_items}
use Rattle.cabinet_text_nodes.proofs.document.Document.with_wholes.Goals as goal

pub invariant_of-result : goal.invariant_of-result
invariant_of-result c =
    let few : length c.args.wholes.items ≡ 0 = grind (arith, nat_tests) in
    let none = no_items c.args.wholes.items few in
    subst (λ ns. IsDocument (node_tree (table_of ns) c.args.root) × (wholes_of (node_tree (table_of ns) c.args.root) ≡ table_of ns)) none c.in-None.ensures

pub invariant_of-result-in-None-2 : goal.invariant_of-result-in-None-2
invariant_of-result-in-None-2 c = c.in-None.ensures

pub returns-in-Some-clause-refusal : goal.returns-in-Some-clause-refusal
returns-in-Some-clause-refusal c = c.in-Some.ensures

pub returns-in-None-clause-document : goal.returns-in-None-clause-document
returns-in-None-clause-document c =
    let few : length c.args.wholes.items ≡ 0 = grind (arith, nat_tests) in
    ap (λ ns. node_tree (table_of ns) c.args.root) (sym (no_items c.args.wholes.items few))

pub returns-in-None-clause-wholes : goal.returns-in-None-clause-wholes
returns-in-None-clause-wholes c =
    let few : length c.args.wholes.items ≡ 0 = grind (arith, nat_tests) in
    ap (λ ns. wholes_of (node_tree (table_of ns) c.args.root)) (sym (no_items c.args.wholes.items few)) ∙ c.in-None.ensures.1

pub returns-in-None-2-clause-wholes : goal.returns-in-None-2-clause-wholes
returns-in-None-2-clause-wholes c = c.in-None.ensures.1
