use Rattle.std.proofs.Common.{refl, sym, ◌∙◌}
use Rattle.std.specs.Map.{remove_entry}
use Rattle.std.proofs.lemmas.Bool.{false≢true}
use Rattle.cabinet_text_grammar.specs.Wholes.{wholes_of}
use Rattle.cabinet_text_nodes.specs.View.{node_tree, node_pairs, table_of}
use Rattle.cabinet_text_nodes.proofs.Paths.{is_key, legal_value}
use Rattle.cabinet_text_nodes.proofs.Restructures.{given_up, not_given_up}
use Rattle.cabinet_text_nodes.proofs.RestructuresPairs.{remove_pair-there, remove_pair-absent}
use Rattle.cabinet_text_nodes.proofs.restructuring.removing.remove_value.Goals as goal

pub returns-in-None : goal.returns-in-None
returns-in-None c kind not table legal = rw
    (remove_pair-absent (table_of c.args.wholes.now) c.args.map.now.entries c.args.key.now (sym c.in-None.ensures.value)) refl

pub returns-in-Some : goal.returns-in-Some
returns-in-Some c kind not table legal =
    let t = table_of c.args.wholes.now in
    let ps = c.args.map.now.entries in
    let key = c.args.key.now in
    let there = sym c.in-Some.ensures.value in
    let tells = c.has_no_whole.ensures table (legal_value t kind ps key c.in-Some.node.now legal there) in
    rw (
      remove_pair-there t ps key c.in-Some.node.now there,
      not_given_up (wholes_of (node_tree t c.in-Some.node.now)) (node_pairs t (remove_entry (is_key key) ps))
          (λ none. false≢true (sym c.if-not-has_no_whole.true ∙ tells.1 none)),
    ) refl

pub returns-in-Some-2 : goal.returns-in-Some-2
returns-in-Some-2 c kind not table legal =
    let t = table_of c.args.wholes.now in
    let ps = c.args.map.now.entries in
    let key = c.args.key.now in
    let there = sym c.in-Some.ensures.value in
    let tells = c.has_no_whole.ensures table (legal_value t kind ps key c.in-Some.node.now legal there) in
    rw (
      remove_pair-there t ps key c.in-Some.node.now there,
      c.remove-removed.ensures.entries,
      given_up (wholes_of (node_tree t c.in-Some.node.now)) (node_pairs t (remove_entry (is_key key) ps)) (tells.0 c.if-not-has_no_whole.false),
    ) refl
