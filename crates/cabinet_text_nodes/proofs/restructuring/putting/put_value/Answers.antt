use Rattle.std.proofs.Common.{[], None, arith, ap, refl, sym, subst, ◌∙◌, ◌≡◌}
use Rattle.std.specs.Prelude.{string_bytes}
use Rattle.std.specs.String.{string_cmp}
use Rattle.std.specs.BTreeMap.{insert_entry}
use Rattle.std.specs.Map.{lookup}
use Rattle.std.proofs.lemmas.Map.{length-set_value}
use Rattle.cabinet_text_nodes.specs.View.{node_tree, node_pairs, table_of}
use Rattle.cabinet_text_nodes.proofs.Paths.{is_key, legal_value}
use Rattle.cabinet_text_nodes.proofs.RestructuresCounts.{length-insert_entry}
use Rattle.cabinet_text_nodes.proofs.RestructuresPairs.{puts_value, put_pair-new, put_pair-refused}
use Rattle.cabinet_text_nodes.proofs.restructuring.putting.put_value.Goals as goal

pub returns-in-Some-clause-puts : goal.returns-in-Some-clause-puts
returns-in-Some-clause-puts c kind not table legal =
    let t = table_of c.args.wholes.now in
    let ps = c.args.map.now.entries in
    let there = sym c.in-Some.ensures.value in
    rw (c.get_mut.follows.holds c.replace.new.node).0
    (puts_value t kind [] ps c.args.key.now c.in-Some.value.now c.args.new c.replace.new.node c.args.fits c.replace.result legal there
    (c.replace.ensures table (legal_value t kind ps c.args.key.now c.in-Some.value.now legal there)))

pub returns-then-not-fits-clause-puts : goal.returns-then-not-fits-clause-puts
returns-then-not-fits-clause-puts c kind not table legal =
    let t = table_of c.args.wholes.now in
    rw (
      c.if-not-fits.true,
      put_pair-refused kind (node_pairs t c.args.map.now.entries) c.args.key.now (node_tree t c.args.new),
      c.get_mut.follows.holds-at-none,
    ) refl

pub returns-clause-puts : goal.returns-clause-puts
returns-clause-puts c kind not table legal =
    let t = table_of c.args.wholes.now in
    let ps = c.args.map.now.entries in
    let s = c.in_ok-from_str.field-0 in
    let named : string_bytes s ≡ c.args.key.now = c.in_ok-from_str.ensures.ok in
    let absent = subst (λ k. lookup (is_key k) ps ≡ None) (sym named) (sym c.in_default.ensures.value) in
    let entries = c.in_ok-insert.ensures.entries ∙ ap (λ m. insert_entry string_cmp m.entries s c.args.new) c.get_mut.follows.holds-at-none in
    rw (c.if-not-fits.false, sym named, put_pair-new t kind ps s c.args.new not absent, entries) refl

pub returns-in-Some-clause-counted : goal.returns-in-Some-clause-counted
returns-in-Some-clause-counted c =
    let same = length-set_value (is_key c.args.key.now) c.args.map.now.entries c.replace.new.node in
    rw (c.get_mut.follows.holds c.replace.new.node).0 (omega (arith, same, c.len-count.ensures.len, c.len-count.ensures.small))

pub returns-then-not-fits-clause-counted : goal.returns-then-not-fits-clause-counted
returns-then-not-fits-clause-counted c = rw c.get_mut.follows.holds-at-none (omega (arith, c.len-count.ensures.len, c.len-count.ensures.small))

pub returns-clause-counted : goal.returns-clause-counted
returns-clause-counted c =
    let ps = c.args.map.now.entries in
    let s = c.in_ok-from_str.field-0 in
    let entries = c.in_ok-insert.ensures.entries ∙ ap (λ m. insert_entry string_cmp m.entries s c.args.new) c.get_mut.follows.holds-at-none in
    rw entries (omega (arith, length-insert_entry string_cmp ps s c.args.new, c.len-count.ensures.len, c.len-count.ensures.small))
