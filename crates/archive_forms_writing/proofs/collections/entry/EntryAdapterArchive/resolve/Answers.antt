use Rattle.std.proofs.Common.{rules, ◌≡◌, Err, ap, ◌+◌}
use Rattle.archive_shape_layout.specs.Shape.Shape.{tuple}
use Rattle.archive_shape_canonical.specs.FirstFit.{first_fit}
use Rattle.archive_forms_laws.specs.Fields.{no_fields, more_fields, struct_spelling}
use Rattle.archive_forms_laws.specs.Serializing.{CanResolve}
use Rattle.archive_forms_writing.specs.Fields.{field_at}
use Rattle.archive_forms_writing.specs.declared.collections.entry.EntryResolver.{EntryResolver}
use Rattle.archive_forms_writing.proofs.Structs.{placed_none, placed_can, placed_next, placed_stopped, placed_all}
use Rattle.archive_forms_writing.proofs.collections.entry.EntryAdapterArchive.resolve.Goals as goal

-- the resolvers of an entry as those of the fields of a struct
abbrev split : {R Q : Type 0} → EntryResolver R Q → R × (Q × Unit {0})
split k = (k.key, (k.value, tt {0}))

pub resolve_field-requires : goal.resolve_field-requires
resolve_field-requires g c =
    let of_value = more_fields g.V.Archived.Portable.shape g.V.Archive.spelling no_fields in
    let all = more_fields g.K.Archived.Portable.shape g.K.Archive.spelling of_value in
    let x : g.row.K.Denot × (g.row.V.Denot × Unit {0}) = (c.args.self.now.key.now, (c.args.self.now.value.now, tt {0})) in
    let r : g.row.K-Resolver.Denot × (g.row.V-Resolver.Denot × Unit {0}) = (c.args.resolver.key, (c.args.resolver.value, tt {0})) in
    let can : CanResolve (struct_spelling all) (tuple all.shapes) x r c.args.out.out.now c.args.out.start c.args.out.pos =
    record { room = c.requires.room; stands = c.requires.stands; blank = c.requires.blank; made = (c.requires.made.0, ap split c.requires.made.1) } in
    let none = placed_none all x r _ _ _ can in
    placed_can all x r _ _ _ can g.K.Archived.Portable.shape g.K.Archive.spelling of_value x r 0 _ none

pub returns-in_err-end : goal.returns-in_err-end
returns-in_err-end g c =
    let of_value = more_fields g.V.Archived.Portable.shape g.V.Archive.spelling no_fields in
    let all = more_fields g.K.Archived.Portable.shape g.K.Archive.spelling of_value in
    let x : g.row.K.Denot × (g.row.V.Denot × Unit {0}) = (c.args.self.now.key.now, (c.args.self.now.value.now, tt {0})) in
    let r : g.row.K-Resolver.Denot × (g.row.V-Resolver.Denot × Unit {0}) = (c.args.resolver.key, (c.args.resolver.value, tt {0})) in
    let can : CanResolve (struct_spelling all) (tuple all.shapes) x r c.args.out.out.now c.args.out.start c.args.out.pos =
    record { room = c.requires.room; stands = c.requires.stands; blank = c.requires.blank; made = (c.requires.made.0, ap split c.requires.made.1) } in
    let none = placed_none all x r _ _ _ can in
    let passed : c.from_residual.result ≡ Err c.in_err-end.field-0.0 = search rules in
    rw passed (placed_stopped all x r _ _ _ can g.K.Archived.Portable.shape g.K.Archive.spelling of_value x r 0 _ none _ c.in_err-end.ensures)

pub resolve_field-requires-2 : goal.resolve_field-requires-2
resolve_field-requires-2 g c =
    let of_value = more_fields g.V.Archived.Portable.shape g.V.Archive.spelling no_fields in
    let all = more_fields g.K.Archived.Portable.shape g.K.Archive.spelling of_value in
    let x : g.row.K.Denot × (g.row.V.Denot × Unit {0}) = (c.args.self.now.key.now, (c.args.self.now.value.now, tt {0})) in
    let r : g.row.K-Resolver.Denot × (g.row.V-Resolver.Denot × Unit {0}) = (c.args.resolver.key, (c.args.resolver.value, tt {0})) in
    let can : CanResolve (struct_spelling all) (tuple all.shapes) x r c.args.out.out.now c.args.out.start c.args.out.pos =
    record { room = c.requires.room; stands = c.requires.stands; blank = c.requires.blank; made = (c.requires.made.0, ap split c.requires.made.1) } in
    let none = placed_none all x r _ _ _ can in
    let one = placed_next all x r _ _ _ can g.K.Archived.Portable.shape g.K.Archive.spelling of_value x r 0 _ none c.resolve_field.new.out c.in_ok-end.end ((g.met.K.Archive.spells (first_fit (λ _. 0)) x.0).sized r.0 (c.args.out.pos + field_at g.K.Archived.Portable.shape 0) c.in_ok-end.ensures.1) c.in_ok-end.ensures in
    placed_can all x r _ _ _ can g.V.Archived.Portable.shape g.V.Archive.spelling no_fields x.1 r.1 _ _ one

pub returns-in_err-resolve_field : goal.returns-in_err-resolve_field
returns-in_err-resolve_field g c =
    let of_value = more_fields g.V.Archived.Portable.shape g.V.Archive.spelling no_fields in
    let all = more_fields g.K.Archived.Portable.shape g.K.Archive.spelling of_value in
    let x : g.row.K.Denot × (g.row.V.Denot × Unit {0}) = (c.args.self.now.key.now, (c.args.self.now.value.now, tt {0})) in
    let r : g.row.K-Resolver.Denot × (g.row.V-Resolver.Denot × Unit {0}) = (c.args.resolver.key, (c.args.resolver.value, tt {0})) in
    let can : CanResolve (struct_spelling all) (tuple all.shapes) x r c.args.out.out.now c.args.out.start c.args.out.pos =
    record { room = c.requires.room; stands = c.requires.stands; blank = c.requires.blank; made = (c.requires.made.0, ap split c.requires.made.1) } in
    let none = placed_none all x r _ _ _ can in
    let one = placed_next all x r _ _ _ can g.K.Archived.Portable.shape g.K.Archive.spelling of_value x r 0 _ none c.resolve_field.new.out c.in_ok-end.end ((g.met.K.Archive.spells (first_fit (λ _. 0)) x.0).sized r.0 (c.args.out.pos + field_at g.K.Archived.Portable.shape 0) c.in_ok-end.ensures.1) c.in_ok-end.ensures in
    let passed : c.from_residual-in_err-resolve_field.result ≡ Err c.in_err-resolve_field.field-0.0 = search rules in
    rw passed (placed_stopped all x r _ _ _ can g.V.Archived.Portable.shape g.V.Archive.spelling no_fields x.1 r.1 _ _ one _ c.in_err-resolve_field.ensures)

pub returns : goal.returns
returns g c =
    let of_value = more_fields g.V.Archived.Portable.shape g.V.Archive.spelling no_fields in
    let all = more_fields g.K.Archived.Portable.shape g.K.Archive.spelling of_value in
    let x : g.row.K.Denot × (g.row.V.Denot × Unit {0}) = (c.args.self.now.key.now, (c.args.self.now.value.now, tt {0})) in
    let r : g.row.K-Resolver.Denot × (g.row.V-Resolver.Denot × Unit {0}) = (c.args.resolver.key, (c.args.resolver.value, tt {0})) in
    let can : CanResolve (struct_spelling all) (tuple all.shapes) x r c.args.out.out.now c.args.out.start c.args.out.pos =
    record { room = c.requires.room; stands = c.requires.stands; blank = c.requires.blank; made = (c.requires.made.0, ap split c.requires.made.1) } in
    let none = placed_none all x r _ _ _ can in
    let one = placed_next all x r _ _ _ can g.K.Archived.Portable.shape g.K.Archive.spelling of_value x r 0 _ none c.resolve_field.new.out c.in_ok-end.end ((g.met.K.Archive.spells (first_fit (λ _. 0)) x.0).sized r.0 (c.args.out.pos + field_at g.K.Archived.Portable.shape 0) c.in_ok-end.ensures.1) c.in_ok-end.ensures in
    let two = placed_next all x r _ _ _ can g.V.Archived.Portable.shape g.V.Archive.spelling no_fields x.1 r.1 _ _ one c.resolve_field-2.new.out c.in_ok-resolve_field.field-0 ((g.met.V.Archive.spells (first_fit (λ _. 0)) x.1.0).sized r.1.0 (c.args.out.pos + field_at g.V.Archived.Portable.shape c.in_ok-end.end) c.in_ok-resolve_field.ensures.1) c.in_ok-resolve_field.ensures in
    placed_all all x r _ _ _ can _ _ _ two
