use Rattle.std.proofs.Common.{Err, rules, ◌≡◌, ◌∙◌, ◌+◌, subst, arith, inl}
use Rattle.archive_shape.proofs.Spared.{spares_same}
use Rattle.archive_hash_maps.specs.Resolving.{IsRefused}
use Rattle.archive_index.proofs.Resolved.{map_resolved}
use Rattle.archive_index.proofs.map.map.ArchivedIndexMap.resolve_from_len.Goals as goal

pub returns-in_err-resolve_from_len : goal.returns-in_err-resolve_from_len
returns-in_err-resolve_from_len g c =
    let failed : c.from_residual.result ≡ Err c.in_err-resolve_from_len.field-0.0 = search rules in
    rw failed
    (let refused = subst (λ p. IsRefused c.args.len c.args.load_factor c.args.resolver.table.pos p c.in_err-resolve_from_len.field-0.0) c.within-table.ensures.pos c.in_err-resolve_from_len.ensures.0 in
    let same = simp (c.within-table.ensures.bytes) at c.in_err-resolve_from_len.ensures.1 in
    (inl refused, spares_same c.args.out.out.now _ c.args.out.start 16 (search (rules, same))))

pub returns : goal.returns
returns g c =
    let h = c.in_ok-resolve_from_len.ensures in
    let stands = c.requires.stands in
    let sat : c.saturating_add.result ≡ c.args.out.pos + 12 = omega (arith, c.saturating_add.ensures, stands) in
    map_resolved c.args.len c.args.load_factor c.args.resolver.table.pos c.args.resolver.entries c.args.out.pos c.args.out.start c.args.out.out.now c.requires.room
    _ _ _ _ _ _ _ _ c.emplace_link.result c.within-table.ensures.pos c.within-table.ensures.start h.0 (simp (c.within-table.ensures.bytes) at h.1)
    (c.within-link.ensures.pos ∙ sat) c.within-link.ensures.start (c.within-link.ensures.bytes ∙ search rules) c.emplace_link.ensures (search rules)
