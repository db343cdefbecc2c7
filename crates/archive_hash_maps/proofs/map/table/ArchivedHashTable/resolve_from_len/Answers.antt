use Rattle.std.proofs.Common.{rules, subst, arith}
use Rattle.archive_forms_laws.specs.Links.{LinkRefused}
use Rattle.archive_hash_maps.specs.Resolving.IsRefused.{is_far}
use Rattle.archive_hash_maps.proofs.Resolved.{on_err, items_fit, no_capacity, three_written}
use Rattle.archive_hash_maps.proofs.map.table.ArchivedHashTable.resolve_from_len.Goals as goal

pub returns-in_err-capacity : goal.returns-in_err-capacity
returns-in_err-capacity g c =
    on_err _ _ c.from_residual.result c.in_err-capacity.field-0.0 (search rules) (no_capacity c.args.len c.args.load_factor c.args.resolver.pos c.args.out.pos _ c.in_err-capacity.ensures, search rules)

pub returns-in_err-emplace_link : goal.returns-in_err-emplace_link
returns-in_err-emplace_link g c =
    let h = c.in_ok-capacity.ensures in
    on_err _ _ c.from_residual-in_err-emplace_link.result c.in_err-emplace_link.field-0.0 (search rules) (is_far h.0 (omega (arith, h.1, h.2)) (subst (λ p. LinkRefused c.args.resolver.pos p c.in_err-emplace_link.field-0.0) c.within.ensures.pos c.in_err-emplace_link.ensures.0), search rules)

pub returns : goal.returns
returns g c =
    let h = c.in_ok-capacity.ensures in
    let few = items_fit c.args.len c.args.load_factor.0 c.args.load_factor.1 in
    let e = three_written c.args.len c.args.load_factor c.args.resolver.pos c.args.out.pos c.args.out.out.now c.args.out.start c.in_ok-capacity.capacity h.1 c.requires in
    let first = simp (c.within.ensures.bytes, c.within.ensures.start, c.within.ensures.pos) at c.in_ok-emplace_link.ensures.1 in
    let second = simp (c.within-2.ensures.bytes, c.within-2.ensures.start, first) at c.write.ensures.contents in
    let third = simp (c.within-3.ensures.bytes, c.within-3.ensures.start, second) at c.write-2.ensures.contents in
    (record { load = h.0; few_items = omega (arith, few, h.1, h.2); few_places = omega (arith, h.1, h.2); near = search rules }, search (rules, e, first, second, third))
