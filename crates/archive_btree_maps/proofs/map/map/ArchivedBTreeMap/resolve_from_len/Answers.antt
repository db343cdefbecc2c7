use Rattle.std.proofs.Common.{rules, ◌+◌, ◌≤◌, length, arith, sym}
use Rattle.std.specs.Int.{w32, to_le_bytes}
use Rattle.archive_forms_laws.specs.Links.{link_bytes}
use Rattle.archive_forms_values.proofs.Joined.{overwrites_joined}
use Rattle.archive_forms_laws.proofs.Links.{length-link}
use Rattle.archive_btree_maps.proofs.map.map.ArchivedBTreeMap.resolve_from_len.Goals as goal

pub returns : goal.returns
returns g c =
    let h = c.requires in
    let size = sym (length-link c.args.resolver.pos c.args.out.pos) in
    let a = link_bytes c.args.resolver.pos c.args.out.pos in
    let m = to_le_bytes w32 c.args.len in
    let room : c.args.out.start + (length a + 4) ≤ length c.args.out.out.now = omega (arith, size, h) in
    let e = overwrites_joined c.args.out.out.now c.args.out.start 4 a m size room in
    let first = simp (c.within.ensures.bytes, c.within.ensures.start, c.within.ensures.pos) at c.in_ok-emplace_link.ensures.1 in
    let second = simp (c.within-2.ensures.bytes, c.within-2.ensures.start, c.in-Ok.ensures.1) at c.write.ensures.contents in
    ((search rules, search rules), search (rules, e, first, second))
