use Rattle.std.proofs.Common.{rules, ◌≡◌, Err, ap, ◌+◌}
use Rattle.archive_shape_layout.specs.Shape.Shape.{tuple}
use Rattle.archive_shape_canonical.specs.FirstFit.{first_fit}
use Rattle.archive_forms_laws.specs.Fields.{no_fields, more_fields, struct_spelling}
use Rattle.archive_forms_laws.specs.Serializing.{CanResolve}
use Rattle.archive_forms_writing.specs.Fields.{field_at}
use Rattle.archive_forms_writing.proofs.Structs.{placed_none, placed_can, placed_next, placed_stopped, placed_all}
use Rattle.archive_forms_writing.proofs.tuple1.Tuple1Archive.resolve.Goals as goal

pub resolve_field-requires : goal.resolve_field-requires
resolve_field-requires g c =
    let all = more_fields g.A.Archived.Portable.shape g.A.Archive.spelling no_fields in
    let x : g.row.A.Denot × Unit {0} = (c.args.self.now.0, tt {0}) in
    let r : g.row.A-Resolver.Denot × Unit {0} = (c.args.resolver.0, tt {0}) in
    let can : CanResolve (struct_spelling all) (tuple all.shapes) x r c.args.out.out.now c.args.out.start c.args.out.pos =
    record { room = c.requires.room; stands = c.requires.stands; blank = c.requires.blank; made = (c.requires.made.0, ap (λ k. (k.0, tt {0})) c.requires.made.1) } in
    let none = placed_none all x r _ _ _ can in
    placed_can all x r _ _ _ can g.A.Archived.Portable.shape g.A.Archive.spelling no_fields x r 0 _ none

pub returns-in_err-resolve_field : goal.returns-in_err-resolve_field
returns-in_err-resolve_field g c =
    let all = more_fields g.A.Archived.Portable.shape g.A.Archive.spelling no_fields in
    let x : g.row.A.Denot × Unit {0} = (c.args.self.now.0, tt {0}) in
    let r : g.row.A-Resolver.Denot × Unit {0} = (c.args.resolver.0, tt {0}) in
    let can : CanResolve (struct_spelling all) (tuple all.shapes) x r c.args.out.out.now c.args.out.start c.args.out.pos =
    record { room = c.requires.room; stands = c.requires.stands; blank = c.requires.blank; made = (c.requires.made.0, ap (λ k. (k.0, tt {0})) c.requires.made.1) } in
    let none = placed_none all x r _ _ _ can in
    let passed : c.from_residual.result ≡ Err c.in_err-resolve_field.field-0.0 = search rules in
    rw passed (placed_stopped all x r _ _ _ can g.A.Archived.Portable.shape g.A.Archive.spelling no_fields x r 0 _ none _ c.in_err-resolve_field.ensures)

pub returns : goal.returns
returns g c =
    let all = more_fields g.A.Archived.Portable.shape g.A.Archive.spelling no_fields in
    let x : g.row.A.Denot × Unit {0} = (c.args.self.now.0, tt {0}) in
    let r : g.row.A-Resolver.Denot × Unit {0} = (c.args.resolver.0, tt {0}) in
    let can : CanResolve (struct_spelling all) (tuple all.shapes) x r c.args.out.out.now c.args.out.start c.args.out.pos =
    record { room = c.requires.room; stands = c.requires.stands; blank = c.requires.blank; made = (c.requires.made.0, ap (λ k. (k.0, tt {0})) c.requires.made.1) } in
    let none = placed_none all x r _ _ _ can in
    let one = placed_next all x r _ _ _ can g.A.Archived.Portable.shape g.A.Archive.spelling no_fields x r 0 _ none c.resolve_field.new.out c.in_ok-resolve_field.field-0 ((g.met.A.Archive.spells (first_fit (λ _. 0)) x.0).sized r.0 (c.args.out.pos + field_at g.A.Archived.Portable.shape 0) c.in_ok-resolve_field.ensures.1) c.in_ok-resolve_field.ensures in
    placed_all all x r _ _ _ can _ _ _ one
