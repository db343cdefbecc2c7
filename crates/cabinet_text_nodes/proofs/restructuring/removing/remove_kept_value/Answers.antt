use Rattle.std.proofs.Common.{[], Some, ap, refl, sym, subst, ◌∙◌, ◌<◌, length}
use Rattle.std.specs.Map.{remove_entry}
use Rattle.std.proofs.lemmas.Bool.{false≢true}
use Rattle.std.proofs.lemmas.Option.{slice_get-get_or}
use Rattle.cabinet_text_grammar.specs.Keys.{kept}
use Rattle.cabinet_text_grammar.specs.Wholes.{wholes_of}
use Rattle.cabinet_text_nodes.specs.Answers.{place_by}
use Rattle.cabinet_text_nodes.specs.View.{node_tree, node_pairs, table_of}
use Rattle.cabinet_text_nodes.proofs.Changes.{placed, place_same}
use Rattle.cabinet_text_nodes.proofs.Paths.{is_key, legal_pair}
use Rattle.cabinet_text_nodes.proofs.Restructures.{given_up, not_given_up}
use Rattle.cabinet_text_nodes.proofs.RestructuresPairs.{remove_pair-there, remove_pair-absent, not_found}
use Rattle.cabinet_text_nodes.proofs.restructuring.removing.remove_kept_value.Goals as goal

pub returns : goal.returns
returns c table legal =
    let t = table_of c.args.wholes.now in
    let ps = c.args.pairs.now.items in
    let key = c.args.key.now in
    let within = subst (λ qs. c.in-Some.place < length qs) c.deref.ensures.value c.in-Some.ensures.within in
    let p = c.index.result.now in
    let there = slice_get-get_or ps c.in-Some.place p within ∙ ap Some (sym c.index.ensures) in
    let at = sym (c.in-Some.ensures.place ∙ ap (λ qs. place_by (node_pairs [] qs) key) c.deref.ensures.value ∙ place_same [] t ps key) in
    let found = placed t ps key c.in-Some.place p at there in
    let tells = c.has_no_whole.ensures table (legal_pair t kept [] ps c.in-Some.place p legal there) in
    rw (
      remove_pair-there t ps key p.1 found.found,
      c.remove-removed.ensures.items,
      found.taken,
      given_up (wholes_of (node_tree t p.1)) (node_pairs t (remove_entry (is_key key) ps)) (tells.0 c.if-not-has_no_whole.false),
    ) refl

pub returns-in_default : goal.returns-in_default
returns-in_default c table legal =
    let t = table_of c.args.wholes.now in
    let ps = c.args.pairs.now.items in
    let key = c.args.key.now in
    let absent = sym (place_same [] t ps key) ∙ ap (λ qs. place_by (node_pairs [] qs) key) (sym c.deref.ensures.value)
    ∙ sym c.in_default.ensures.place in
    rw (remove_pair-absent t ps key (not_found t ps key absent)) refl

pub returns-then-not-has_no_whole : goal.returns-then-not-has_no_whole
returns-then-not-has_no_whole c table legal =
    let t = table_of c.args.wholes.now in
    let ps = c.args.pairs.now.items in
    let key = c.args.key.now in
    let within = subst (λ qs. c.in-Some.place < length qs) c.deref.ensures.value c.in-Some.ensures.within in
    let p = c.index.result.now in
    let there = slice_get-get_or ps c.in-Some.place p within ∙ ap Some (sym c.index.ensures) in
    let at = sym (c.in-Some.ensures.place ∙ ap (λ qs. place_by (node_pairs [] qs) key) c.deref.ensures.value ∙ place_same [] t ps key) in
    let found = placed t ps key c.in-Some.place p at there in
    let tells = c.has_no_whole.ensures table (legal_pair t kept [] ps c.in-Some.place p legal there) in
    rw (
      remove_pair-there t ps key p.1 found.found,
      not_given_up (wholes_of (node_tree t p.1)) (node_pairs t (remove_entry (is_key key) ps))
          (λ none. false≢true (sym c.if-not-has_no_whole.true ∙ tells.1 none)),
    ) refl
