use Rattle.std.proofs.Common.{[], Some, None, ap, refl, sym, subst, ◌∙◌, ◌≡◌, ◌<◌, length}
use Rattle.std.proofs.lemmas.Option.{slice_get-get_or}
use Rattle.std.specs.Prelude.{string_bytes}
use Rattle.cabinet_text_grammar.specs.Keys.{kept}
use Rattle.cabinet_text_nodes.specs.Answers.{place_by}
use Rattle.cabinet_text_nodes.specs.View.{node_tree, node_pairs, table_of}
use Rattle.cabinet_text_nodes.proofs.Changes.{placed, place_same}
use Rattle.cabinet_text_nodes.proofs.Paths.{legal_pair}
use Rattle.cabinet_text_nodes.proofs.RestructuresPairs.{puts_value, put_pair-last, put_pair-refused}
use Rattle.cabinet_text_nodes.proofs.restructuring.putting.put_kept_value.Goals as goal

pub returns : goal.returns
returns c table legal =
    let t = table_of c.args.wholes.now in
    let ps = c.args.pairs.now.items in
    let key = c.args.key.now in
    let named : string_bytes c.in_ok-from_str.field-0 ≡ key = c.in_ok-from_str.ensures.ok in
    let absent = subst (λ k. place_by (node_pairs t ps) k ≡ None) (sym named)
    (sym (place_same [] t ps key) ∙ ap (λ qs. place_by (node_pairs [] qs) key) (sym c.deref.ensures.value) ∙ sym c.in_default.ensures.place) in
    rw (c.if-not-fits.false, sym named, put_pair-last t ps c.in_ok-from_str.field-0 c.args.new absent, c.in_ok-push.ensures.items) refl

pub returns-in-Some : goal.returns-in-Some
returns-in-Some c table legal =
    let t = table_of c.args.wholes.now in
    let ps = c.args.pairs.now.items in
    let key = c.args.key.now in
    let within = subst (λ qs. c.in-Some.place < length qs) c.deref.ensures.value c.in-Some.ensures.within in
    let p = c.index_mut.result.now in
    let there = slice_get-get_or ps c.in-Some.place p within ∙ ap Some (sym c.index_mut.ensures.value) in
    let at = sym (c.in-Some.ensures.place ∙ ap (λ qs. place_by (node_pairs [] qs) key) c.deref.ensures.value ∙ place_same [] t ps key) in
    let found = placed t ps key c.in-Some.place p at there in
    rw (found.put c.replace.new.node)
    (puts_value t kept [] ps key p.1 c.args.new c.replace.new.node c.args.fits c.replace.result legal found.found
    (c.replace.ensures table (legal_pair t kept [] ps c.in-Some.place p legal there)))

pub returns-then-not-fits : goal.returns-then-not-fits
returns-then-not-fits c table legal =
    let t = table_of c.args.wholes.now in
    rw (c.if-not-fits.true, put_pair-refused kept (node_pairs t c.args.pairs.now.items) c.args.key.now (node_tree t c.args.new)) refl
