use Rattle.std.proofs.Common.{rules, ◌≡◌, Err, ap, ◌+◌}
use Rattle.archive_shape_layout.specs.Shape.Shape.{tuple}
use Rattle.archive_shape_canonical.specs.FirstFit.{first_fit}
use Rattle.archive_forms_laws.specs.Fields.{no_fields, more_fields, struct_spelling}
use Rattle.archive_forms_laws.specs.Serializing.{CanResolve}
use Rattle.archive_forms_writing.specs.Fields.{field_at}
use Rattle.archive_forms_writing.proofs.Structs.{placed_none, placed_can, placed_next, placed_stopped, placed_all}
use Rattle.archive_forms_writing.proofs.tuple4.Tuple4Archive.resolve.Goals as goal

pub resolve_field-requires : goal.resolve_field-requires
resolve_field-requires g c =
    let from_fourth = more_fields g.D.Archived.Portable.shape g.D.Archive.spelling no_fields in
    let from_third = more_fields g.C.Archived.Portable.shape g.C.Archive.spelling from_fourth in
    let from_second = more_fields g.B.Archived.Portable.shape g.B.Archive.spelling from_third in
    let all = more_fields g.A.Archived.Portable.shape g.A.Archive.spelling from_second in
    let x : g.row.A.Denot × (g.row.B.Denot × (g.row.C.Denot × (g.row.D.Denot × Unit {0}))) = (c.args.self.now.0, (c.args.self.now.1, (c.args.self.now.2, (c.args.self.now.3, tt {0})))) in
    let r : g.row.A-Resolver.Denot × (g.row.B-Resolver.Denot × (g.row.C-Resolver.Denot × (g.row.D-Resolver.Denot × Unit {0}))) = (c.args.resolver.0, (c.args.resolver.1, (c.args.resolver.2, (c.args.resolver.3, tt {0})))) in
    let can : CanResolve (struct_spelling all) (tuple all.shapes) x r c.args.out.out.now c.args.out.start c.args.out.pos =
    record { room = c.requires.room; stands = c.requires.stands; blank = c.requires.blank; made = (c.requires.made.0, ap (λ k. (k.0, (k.1, (k.2, (k.3, tt {0}))))) c.requires.made.1) } in
    let none = placed_none all x r _ _ _ can in
    placed_can all x r _ _ _ can g.A.Archived.Portable.shape g.A.Archive.spelling from_second x r 0 _ none

pub returns-in_err-end : goal.returns-in_err-end
returns-in_err-end g c =
    let from_fourth = more_fields g.D.Archived.Portable.shape g.D.Archive.spelling no_fields in
    let from_third = more_fields g.C.Archived.Portable.shape g.C.Archive.spelling from_fourth in
    let from_second = more_fields g.B.Archived.Portable.shape g.B.Archive.spelling from_third in
    let all = more_fields g.A.Archived.Portable.shape g.A.Archive.spelling from_second in
    let x : g.row.A.Denot × (g.row.B.Denot × (g.row.C.Denot × (g.row.D.Denot × Unit {0}))) = (c.args.self.now.0, (c.args.self.now.1, (c.args.self.now.2, (c.args.self.now.3, tt {0})))) in
    let r : g.row.A-Resolver.Denot × (g.row.B-Resolver.Denot × (g.row.C-Resolver.Denot × (g.row.D-Resolver.Denot × Unit {0}))) = (c.args.resolver.0, (c.args.resolver.1, (c.args.resolver.2, (c.args.resolver.3, tt {0})))) in
    let can : CanResolve (struct_spelling all) (tuple all.shapes) x r c.args.out.out.now c.args.out.start c.args.out.pos =
    record { room = c.requires.room; stands = c.requires.stands; blank = c.requires.blank; made = (c.requires.made.0, ap (λ k. (k.0, (k.1, (k.2, (k.3, tt {0}))))) c.requires.made.1) } in
    let none = placed_none all x r _ _ _ can in
    let passed : c.from_residual.result ≡ Err c.in_err-end.field-0.0 = search rules in
    rw passed (placed_stopped all x r _ _ _ can g.A.Archived.Portable.shape g.A.Archive.spelling from_second x r 0 _ none _ c.in_err-end.ensures)

pub resolve_field-requires-2 : goal.resolve_field-requires-2
resolve_field-requires-2 g c =
    let from_fourth = more_fields g.D.Archived.Portable.shape g.D.Archive.spelling no_fields in
    let from_third = more_fields g.C.Archived.Portable.shape g.C.Archive.spelling from_fourth in
    let from_second = more_fields g.B.Archived.Portable.shape g.B.Archive.spelling from_third in
    let all = more_fields g.A.Archived.Portable.shape g.A.Archive.spelling from_second in
    let x : g.row.A.Denot × (g.row.B.Denot × (g.row.C.Denot × (g.row.D.Denot × Unit {0}))) = (c.args.self.now.0, (c.args.self.now.1, (c.args.self.now.2, (c.args.self.now.3, tt {0})))) in
    let r : g.row.A-Resolver.Denot × (g.row.B-Resolver.Denot × (g.row.C-Resolver.Denot × (g.row.D-Resolver.Denot × Unit {0}))) = (c.args.resolver.0, (c.args.resolver.1, (c.args.resolver.2, (c.args.resolver.3, tt {0})))) in
    let can : CanResolve (struct_spelling all) (tuple all.shapes) x r c.args.out.out.now c.args.out.start c.args.out.pos =
    record { room = c.requires.room; stands = c.requires.stands; blank = c.requires.blank; made = (c.requires.made.0, ap (λ k. (k.0, (k.1, (k.2, (k.3, tt {0}))))) c.requires.made.1) } in
    let none = placed_none all x r _ _ _ can in
    let one = placed_next all x r _ _ _ can g.A.Archived.Portable.shape g.A.Archive.spelling from_second x r 0 _ none c.resolve_field.new.out c.in_ok-end.end ((g.met.A.Archive.spells (first_fit (λ _. 0)) x.0).sized r.0 (c.args.out.pos + field_at g.A.Archived.Portable.shape 0) c.in_ok-end.ensures.1) c.in_ok-end.ensures in
    placed_can all x r _ _ _ can g.B.Archived.Portable.shape g.B.Archive.spelling from_third x.1 r.1 _ _ one

pub returns-in_err-end-2 : goal.returns-in_err-end-2
returns-in_err-end-2 g c =
    let from_fourth = more_fields g.D.Archived.Portable.shape g.D.Archive.spelling no_fields in
    let from_third = more_fields g.C.Archived.Portable.shape g.C.Archive.spelling from_fourth in
    let from_second = more_fields g.B.Archived.Portable.shape g.B.Archive.spelling from_third in
    let all = more_fields g.A.Archived.Portable.shape g.A.Archive.spelling from_second in
    let x : g.row.A.Denot × (g.row.B.Denot × (g.row.C.Denot × (g.row.D.Denot × Unit {0}))) = (c.args.self.now.0, (c.args.self.now.1, (c.args.self.now.2, (c.args.self.now.3, tt {0})))) in
    let r : g.row.A-Resolver.Denot × (g.row.B-Resolver.Denot × (g.row.C-Resolver.Denot × (g.row.D-Resolver.Denot × Unit {0}))) = (c.args.resolver.0, (c.args.resolver.1, (c.args.resolver.2, (c.args.resolver.3, tt {0})))) in
    let can : CanResolve (struct_spelling all) (tuple all.shapes) x r c.args.out.out.now c.args.out.start c.args.out.pos =
    record { room = c.requires.room; stands = c.requires.stands; blank = c.requires.blank; made = (c.requires.made.0, ap (λ k. (k.0, (k.1, (k.2, (k.3, tt {0}))))) c.requires.made.1) } in
    let none = placed_none all x r _ _ _ can in
    let one = placed_next all x r _ _ _ can g.A.Archived.Portable.shape g.A.Archive.spelling from_second x r 0 _ none c.resolve_field.new.out c.in_ok-end.end ((g.met.A.Archive.spells (first_fit (λ _. 0)) x.0).sized r.0 (c.args.out.pos + field_at g.A.Archived.Portable.shape 0) c.in_ok-end.ensures.1) c.in_ok-end.ensures in
    let passed : c.from_residual-in_err-end-2.result ≡ Err c.in_err-end-2.field-0.0 = search rules in
    rw passed (placed_stopped all x r _ _ _ can g.B.Archived.Portable.shape g.B.Archive.spelling from_third x.1 r.1 _ _ one _ c.in_err-end-2.ensures)

pub resolve_field-requires-3 : goal.resolve_field-requires-3
resolve_field-requires-3 g c =
    let from_fourth = more_fields g.D.Archived.Portable.shape g.D.Archive.spelling no_fields in
    let from_third = more_fields g.C.Archived.Portable.shape g.C.Archive.spelling from_fourth in
    let from_second = more_fields g.B.Archived.Portable.shape g.B.Archive.spelling from_third in
    let all = more_fields g.A.Archived.Portable.shape g.A.Archive.spelling from_second in
    let x : g.row.A.Denot × (g.row.B.Denot × (g.row.C.Denot × (g.row.D.Denot × Unit {0}))) = (c.args.self.now.0, (c.args.self.now.1, (c.args.self.now.2, (c.args.self.now.3, tt {0})))) in
    let r : g.row.A-Resolver.Denot × (g.row.B-Resolver.Denot × (g.row.C-Resolver.Denot × (g.row.D-Resolver.Denot × Unit {0}))) = (c.args.resolver.0, (c.args.resolver.1, (c.args.resolver.2, (c.args.resolver.3, tt {0})))) in
    let can : CanResolve (struct_spelling all) (tuple all.shapes) x r c.args.out.out.now c.args.out.start c.args.out.pos =
    record { room = c.requires.room; stands = c.requires.stands; blank = c.requires.blank; made = (c.requires.made.0, ap (λ k. (k.0, (k.1, (k.2, (k.3, tt {0}))))) c.requires.made.1) } in
    let none = placed_none all x r _ _ _ can in
    let one = placed_next all x r _ _ _ can g.A.Archived.Portable.shape g.A.Archive.spelling from_second x r 0 _ none c.resolve_field.new.out c.in_ok-end.end ((g.met.A.Archive.spells (first_fit (λ _. 0)) x.0).sized r.0 (c.args.out.pos + field_at g.A.Archived.Portable.shape 0) c.in_ok-end.ensures.1) c.in_ok-end.ensures in
    let two = placed_next all x r _ _ _ can g.B.Archived.Portable.shape g.B.Archive.spelling from_third x.1 r.1 _ _ one c.resolve_field-2.new.out c.in_ok-end-2.end ((g.met.B.Archive.spells (first_fit (λ _. 0)) x.1.0).sized r.1.0 (c.args.out.pos + field_at g.B.Archived.Portable.shape c.in_ok-end.end) c.in_ok-end-2.ensures.1) c.in_ok-end-2.ensures in
    placed_can all x r _ _ _ can g.C.Archived.Portable.shape g.C.Archive.spelling from_fourth x.1.1 r.1.1 _ _ two

pub returns-in_err-end-3 : goal.returns-in_err-end-3
returns-in_err-end-3 g c =
    let from_fourth = more_fields g.D.Archived.Portable.shape g.D.Archive.spelling no_fields in
    let from_third = more_fields g.C.Archived.Portable.shape g.C.Archive.spelling from_fourth in
    let from_second = more_fields g.B.Archived.Portable.shape g.B.Archive.spelling from_third in
    let all = more_fields g.A.Archived.Portable.shape g.A.Archive.spelling from_second in
    let x : g.row.A.Denot × (g.row.B.Denot × (g.row.C.Denot × (g.row.D.Denot × Unit {0}))) = (c.args.self.now.0, (c.args.self.now.1, (c.args.self.now.2, (c.args.self.now.3, tt {0})))) in
    let r : g.row.A-Resolver.Denot × (g.row.B-Resolver.Denot × (g.row.C-Resolver.Denot × (g.row.D-Resolver.Denot × Unit {0}))) = (c.args.resolver.0, (c.args.resolver.1, (c.args.resolver.2, (c.args.resolver.3, tt {0})))) in
    let can : CanResolve (struct_spelling all) (tuple all.shapes) x r c.args.out.out.now c.args.out.start c.args.out.pos =
    record { room = c.requires.room; stands = c.requires.stands; blank = c.requires.blank; made = (c.requires.made.0, ap (λ k. (k.0, (k.1, (k.2, (k.3, tt {0}))))) c.requires.made.1) } in
    let none = placed_none all x r _ _ _ can in
    let one = placed_next all x r _ _ _ can g.A.Archived.Portable.shape g.A.Archive.spelling from_second x r 0 _ none c.resolve_field.new.out c.in_ok-end.end ((g.met.A.Archive.spells (first_fit (λ _. 0)) x.0).sized r.0 (c.args.out.pos + field_at g.A.Archived.Portable.shape 0) c.in_ok-end.ensures.1) c.in_ok-end.ensures in
    let two = placed_next all x r _ _ _ can g.B.Archived.Portable.shape g.B.Archive.spelling from_third x.1 r.1 _ _ one c.resolve_field-2.new.out c.in_ok-end-2.end ((g.met.B.Archive.spells (first_fit (λ _. 0)) x.1.0).sized r.1.0 (c.args.out.pos + field_at g.B.Archived.Portable.shape c.in_ok-end.end) c.in_ok-end-2.ensures.1) c.in_ok-end-2.ensures in
    let passed : c.from_residual-in_err-end-3.result ≡ Err c.in_err-end-3.field-0.0 = search rules in
    rw passed (placed_stopped all x r _ _ _ can g.C.Archived.Portable.shape g.C.Archive.spelling from_fourth x.1.1 r.1.1 _ _ two _ c.in_err-end-3.ensures)

pub resolve_field-requires-4 : goal.resolve_field-requires-4
resolve_field-requires-4 g c =
    let from_fourth = more_fields g.D.Archived.Portable.shape g.D.Archive.spelling no_fields in
    let from_third = more_fields g.C.Archived.Portable.shape g.C.Archive.spelling from_fourth in
    let from_second = more_fields g.B.Archived.Portable.shape g.B.Archive.spelling from_third in
    let all = more_fields g.A.Archived.Portable.shape g.A.Archive.spelling from_second in
    let x : g.row.A.Denot × (g.row.B.Denot × (g.row.C.Denot × (g.row.D.Denot × Unit {0}))) = (c.args.self.now.0, (c.args.self.now.1, (c.args.self.now.2, (c.args.self.now.3, tt {0})))) in
    let r : g.row.A-Resolver.Denot × (g.row.B-Resolver.Denot × (g.row.C-Resolver.Denot × (g.row.D-Resolver.Denot × Unit {0}))) = (c.args.resolver.0, (c.args.resolver.1, (c.args.resolver.2, (c.args.resolver.3, tt {0})))) in
    let can : CanResolve (struct_spelling all) (tuple all.shapes) x r c.args.out.out.now c.args.out.start c.args.out.pos =
    record { room = c.requires.room; stands = c.requires.stands; blank = c.requires.blank; made = (c.requires.made.0, ap (λ k. (k.0, (k.1, (k.2, (k.3, tt {0}))))) c.requires.made.1) } in
    let none = placed_none all x r _ _ _ can in
    let one = placed_next all x r _ _ _ can g.A.Archived.Portable.shape g.A.Archive.spelling from_second x r 0 _ none c.resolve_field.new.out c.in_ok-end.end ((g.met.A.Archive.spells (first_fit (λ _. 0)) x.0).sized r.0 (c.args.out.pos + field_at g.A.Archived.Portable.shape 0) c.in_ok-end.ensures.1) c.in_ok-end.ensures in
    let two = placed_next all x r _ _ _ can g.B.Archived.Portable.shape g.B.Archive.spelling from_third x.1 r.1 _ _ one c.resolve_field-2.new.out c.in_ok-end-2.end ((g.met.B.Archive.spells (first_fit (λ _. 0)) x.1.0).sized r.1.0 (c.args.out.pos + field_at g.B.Archived.Portable.shape c.in_ok-end.end) c.in_ok-end-2.ensures.1) c.in_ok-end-2.ensures in
    let three = placed_next all x r _ _ _ can g.C.Archived.Portable.shape g.C.Archive.spelling from_fourth x.1.1 r.1.1 _ _ two c.resolve_field-3.new.out c.in_ok-end-3.end ((g.met.C.Archive.spells (first_fit (λ _. 0)) x.1.1.0).sized r.1.1.0 (c.args.out.pos + field_at g.C.Archived.Portable.shape c.in_ok-end-2.end) c.in_ok-end-3.ensures.1) c.in_ok-end-3.ensures in
    placed_can all x r _ _ _ can g.D.Archived.Portable.shape g.D.Archive.spelling no_fields x.1.1.1 r.1.1.1 _ _ three

pub returns-in_err-resolve_field : goal.returns-in_err-resolve_field
returns-in_err-resolve_field g c =
    let from_fourth = more_fields g.D.Archived.Portable.shape g.D.Archive.spelling no_fields in
    let from_third = more_fields g.C.Archived.Portable.shape g.C.Archive.spelling from_fourth in
    let from_second = more_fields g.B.Archived.Portable.shape g.B.Archive.spelling from_third in
    let all = more_fields g.A.Archived.Portable.shape g.A.Archive.spelling from_second in
    let x : g.row.A.Denot × (g.row.B.Denot × (g.row.C.Denot × (g.row.D.Denot × Unit {0}))) = (c.args.self.now.0, (c.args.self.now.1, (c.args.self.now.2, (c.args.self.now.3, tt {0})))) in
    let r : g.row.A-Resolver.Denot × (g.row.B-Resolver.Denot × (g.row.C-Resolver.Denot × (g.row.D-Resolver.Denot × Unit {0}))) = (c.args.resolver.0, (c.args.resolver.1, (c.args.resolver.2, (c.args.resolver.3, tt {0})))) in
    let can : CanResolve (struct_spelling all) (tuple all.shapes) x r c.args.out.out.now c.args.out.start c.args.out.pos =
    record { room = c.requires.room; stands = c.requires.stands; blank = c.requires.blank; made = (c.requires.made.0, ap (λ k. (k.0, (k.1, (k.2, (k.3, tt {0}))))) c.requires.made.1) } in
    let none = placed_none all x r _ _ _ can in
    let one = placed_next all x r _ _ _ can g.A.Archived.Portable.shape g.A.Archive.spelling from_second x r 0 _ none c.resolve_field.new.out c.in_ok-end.end ((g.met.A.Archive.spells (first_fit (λ _. 0)) x.0).sized r.0 (c.args.out.pos + field_at g.A.Archived.Portable.shape 0) c.in_ok-end.ensures.1) c.in_ok-end.ensures in
    let two = placed_next all x r _ _ _ can g.B.Archived.Portable.shape g.B.Archive.spelling from_third x.1 r.1 _ _ one c.resolve_field-2.new.out c.in_ok-end-2.end ((g.met.B.Archive.spells (first_fit (λ _. 0)) x.1.0).sized r.1.0 (c.args.out.pos + field_at g.B.Archived.Portable.shape c.in_ok-end.end) c.in_ok-end-2.ensures.1) c.in_ok-end-2.ensures in
    let three = placed_next all x r _ _ _ can g.C.Archived.Portable.shape g.C.Archive.spelling from_fourth x.1.1 r.1.1 _ _ two c.resolve_field-3.new.out c.in_ok-end-3.end ((g.met.C.Archive.spells (first_fit (λ _. 0)) x.1.1.0).sized r.1.1.0 (c.args.out.pos + field_at g.C.Archived.Portable.shape c.in_ok-end-2.end) c.in_ok-end-3.ensures.1) c.in_ok-end-3.ensures in
    let passed : c.from_residual-in_err-resolve_field.result ≡ Err c.in_err-resolve_field.field-0.0 = search rules in
    rw passed (placed_stopped all x r _ _ _ can g.D.Archived.Portable.shape g.D.Archive.spelling no_fields x.1.1.1 r.1.1.1 _ _ three _ c.in_err-resolve_field.ensures)

pub returns : goal.returns
returns g c =
    let from_fourth = more_fields g.D.Archived.Portable.shape g.D.Archive.spelling no_fields in
    let from_third = more_fields g.C.Archived.Portable.shape g.C.Archive.spelling from_fourth in
    let from_second = more_fields g.B.Archived.Portable.shape g.B.Archive.spelling from_third in
    let all = more_fields g.A.Archived.Portable.shape g.A.Archive.spelling from_second in
    let x : g.row.A.Denot × (g.row.B.Denot × (g.row.C.Denot × (g.row.D.Denot × Unit {0}))) = (c.args.self.now.0, (c.args.self.now.1, (c.args.self.now.2, (c.args.self.now.3, tt {0})))) in
    let r : g.row.A-Resolver.Denot × (g.row.B-Resolver.Denot × (g.row.C-Resolver.Denot × (g.row.D-Resolver.Denot × Unit {0}))) = (c.args.resolver.0, (c.args.resolver.1, (c.args.resolver.2, (c.args.resolver.3, tt {0})))) in
    let can : CanResolve (struct_spelling all) (tuple all.shapes) x r c.args.out.out.now c.args.out.start c.args.out.pos =
    record { room = c.requires.room; stands = c.requires.stands; blank = c.requires.blank; made = (c.requires.made.0, ap (λ k. (k.0, (k.1, (k.2, (k.3, tt {0}))))) c.requires.made.1) } in
    let none = placed_none all x r _ _ _ can in
    let one = placed_next all x r _ _ _ can g.A.Archived.Portable.shape g.A.Archive.spelling from_second x r 0 _ none c.resolve_field.new.out c.in_ok-end.end ((g.met.A.Archive.spells (first_fit (λ _. 0)) x.0).sized r.0 (c.args.out.pos + field_at g.A.Archived.Portable.shape 0) c.in_ok-end.ensures.1) c.in_ok-end.ensures in
    let two = placed_next all x r _ _ _ can g.B.Archived.Portable.shape g.B.Archive.spelling from_third x.1 r.1 _ _ one c.resolve_field-2.new.out c.in_ok-end-2.end ((g.met.B.Archive.spells (first_fit (λ _. 0)) x.1.0).sized r.1.0 (c.args.out.pos + field_at g.B.Archived.Portable.shape c.in_ok-end.end) c.in_ok-end-2.ensures.1) c.in_ok-end-2.ensures in
    let three = placed_next all x r _ _ _ can g.C.Archived.Portable.shape g.C.Archive.spelling from_fourth x.1.1 r.1.1 _ _ two c.resolve_field-3.new.out c.in_ok-end-3.end ((g.met.C.Archive.spells (first_fit (λ _. 0)) x.1.1.0).sized r.1.1.0 (c.args.out.pos + field_at g.C.Archived.Portable.shape c.in_ok-end-2.end) c.in_ok-end-3.ensures.1) c.in_ok-end-3.ensures in
    let four = placed_next all x r _ _ _ can g.D.Archived.Portable.shape g.D.Archive.spelling no_fields x.1.1.1 r.1.1.1 _ _ three c.resolve_field-4.new.out c.in_ok-resolve_field.field-0 ((g.met.D.Archive.spells (first_fit (λ _. 0)) x.1.1.1.0).sized r.1.1.1.0 (c.args.out.pos + field_at g.D.Archived.Portable.shape c.in_ok-end-3.end) c.in_ok-resolve_field.ensures.1) c.in_ok-resolve_field.ensures in
    placed_all all x r _ _ _ can _ _ _ four
