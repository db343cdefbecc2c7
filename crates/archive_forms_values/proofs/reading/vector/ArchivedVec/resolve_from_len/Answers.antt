use Rattle.std.proofs.Common.{rules, arith, ◌≡◌, ◌+◌, ◌≤◌, ◌++◌, length, refl, ap, ◌∙◌}
use Rattle.std.specs.Int.{w32, to_le_bytes}
use Rattle.archive_shape_layout.specs.Bytes.{align_up}
use Rattle.archive_shape.specs.Bytes.{overwrite}
use Rattle.archive_shape.specs.Offsets.{offset_bytes}
use Rattle.archive_forms_values.proofs.Joined.{overwrites_joined}
use Rattle.archive_forms_values.proofs.reading.vector.ArchivedVec.resolve_from_len.Goals as goal

pub try_emplace_unsized-requires : goal.try_emplace_unsized-requires
unfolding align_up
try_emplace_unsized-requires g c =
    let room = c.requires in
    let there = ap length c.within.ensures.bytes in
    omega (arith, room, there, c.within.ensures.start)

pub returns : goal.returns
unfolding align_up
returns g c =
    let h = c.requires in
    let room : c.args.out.start + (4 + 4) ≤ length c.args.out.out.now = omega arith in
    let a = offset_bytes c.args.out.pos c.args.resolver.pos in
    let m = to_le_bytes w32 c.args.len in
    let e = overwrites_joined c.args.out.out.now c.args.out.start 4 a m refl room in
    let q = simp (c.within.ensures.bytes, c.within.ensures.start, c.within.ensures.pos, c.from_native.ensures, c.in-Ok.ensures.1) at c.in_ok-try_emplace_unsized.ensures.contents.1 in
    let all : c.try_emplace_unsized.new.out.0 ≡ overwrite c.args.out.out.now c.args.out.start (a ++ m) = q ∙ e in
    ((search rules, search rules), search (rules, all))
